pub mod SideParts
