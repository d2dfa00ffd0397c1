pub mod Hours
pub mod Week
pub mod Table
pub mod Texts
pub mod Laws
