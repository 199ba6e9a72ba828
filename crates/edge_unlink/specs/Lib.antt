pub mod FacedUnlinks
