-- What the shapes of a drawing stand for.
pub mod Shapes
