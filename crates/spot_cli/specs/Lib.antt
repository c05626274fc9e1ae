pub mod StatusLines
pub mod Endings
pub mod Programs
