mod Spares
pub mod Printed
