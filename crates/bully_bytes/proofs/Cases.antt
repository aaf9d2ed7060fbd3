-- The records in bytes, computed over the definitions.
use mathlib.Core.Path.{refl}
use Rattle.model.specs.Pick.{pick}
use Rattle.number_bytes.specs.Bytes.{number, bytes, status_of}
use Rattle.bully_bytes.specs.Bytes.{place_of, node_of, parts_bytes, node_bytes}
use Rattle.bully_bytes.specs.Claims.{RecordCases}

pub record_cases : RecordCases
unfolding pick number bytes status_of place_of node_of parts_bytes node_bytes
record_cases =
    record {
      starting = refl;
      normal = refl;
      announcing = refl;
      asking = refl;
      halting = refl;
      point = refl;
      handing = refl;
      checking = refl;
      contacting = refl;
      other_form = refl;
      even_off = refl;
    }
