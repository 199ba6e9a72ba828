pub mod Parcels
