-- What lane polygons hold, and which they are.
pub mod Laws
pub mod Polygons
pub mod Reaches
