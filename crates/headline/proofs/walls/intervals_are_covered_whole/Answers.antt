use Rattle.headline.proofs.Intervals.{covers_whole_intervals, covers_from_stops, open_is_uncovered}
use Rattle.headline.proofs.walls.intervals_are_covered_whole.Goals as goal

pub returns : goal.returns
returns c = record { whole = covers_whole_intervals; from_stops = covers_from_stops; uncovered = open_is_uncovered }
