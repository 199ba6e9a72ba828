-- What the calls of an arrangement answer, for a caller that knows no crate below it: the refusals that errors stand for, the errors of a question about a curve, edits of an edge by its ends in either order, and an edge by its ends.
pub use Rattle.curve_history.specs.declared.history.HistoryError.{HistoryError}
pub use Rattle.curve_history.specs.declared.history.HistoryError.TheVariants.{Unknown, NoMemory as NoMemoryForEdges}
pub use Rattle.record_orders.specs.Edges.{edge_of}
pub use Rattle.segment_insert.specs.Insertion.{insert_said}
pub use Rattle.segment_remove.specs.Refused.{cut_between, cut_said, drop_said}
pub use Rattle.pin_points.specs.Pins.{pin_said, unpin_said}
pub use Rattle.pin_points.specs.Splits.{split_at, split_said}
pub use Rattle.pin_points.specs.Merges.{merge_said}
