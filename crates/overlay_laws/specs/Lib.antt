pub mod OverlayLaws
pub mod United
