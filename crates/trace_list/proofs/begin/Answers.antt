-- `begin` meets its contract, by the first field.
use Rattle.trace_list.proofs.Given.{few_nodes, begun_failed, begun_nodes}
use Rattle.trace_list.proofs.begin.Goals as goal

pub headed-requires : goal.headed-requires
headed-requires c = few_nodes _ c.first_of.ensures c.in-Ok.is

pub returns-in-Err : goal.returns-in-Err
returns-in-Err c = begun_failed _ c.first_of.ensures _ _ c.in-Err.is _ c.stop_number.ensures c.refused.ensures

pub returns-in-Ok : goal.returns-in-Ok
returns-in-Ok c = begun_nodes _ c.first_of.ensures _ _ c.in-Ok.is c.headed.ensures
