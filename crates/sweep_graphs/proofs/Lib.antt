pub mod BesideWalls
pub mod EdgeOrders
pub mod FrontEdges
pub mod OpenStretches
pub mod TraceLists
pub mod Tracing
pub mod TraceGraph
