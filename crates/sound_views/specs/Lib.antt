pub mod VertexRounds
pub mod VertexRoundLaws
pub mod FaceOrderLaws
pub mod RecordGraphLaws
pub mod Orders
pub mod OrderLaws
pub mod ForwardDarts
