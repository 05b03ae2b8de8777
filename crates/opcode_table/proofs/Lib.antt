pub mod UndefinedOpcodes
pub mod Matrix
