-- What a tree of states means, how it is extended, what `put_text` promises, and which wrong programs that shuts out.
pub mod Tree
pub mod Printed
pub mod Mutants
