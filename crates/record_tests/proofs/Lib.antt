pub mod ListsAsked
pub mod NotedPoints
