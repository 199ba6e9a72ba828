-- Rounds of a line's edit in which nobody is lost.
use Rattle.std.proofs.Common.{ℕ, ◌*◌, List, [], ◌∷◌, length, Result, Ok, Err}
use Rattle.std.proofs.Math.ListN.{replicate}
use Rattle.std.proofs.lemmas.List.{length-replicate}
use Rattle.exact_plane.specs.Path.{path_of}
use Rattle.exact_plane.specs.Segment.{Segment}
use Rattle.exact_plane.specs.SegmentOf.{segment_of}
use Rattle.edit_steps.specs.Edits.{Edit, Insert, Drop as DropCurve, Pin as PinPoint, Unpin as UnpinPoint, Merge as MergeEdges, ClearAll, steps}
use Rattle.script_lines.specs.declared.command.Command.{Command}
use Rattle.script_lines.specs.declared.command.Command.TheVariants.{Nothing, Segment as AddSegment, Path as AddPath, Drop, Cut, Pin, Unpin, Split, Merge, Clear, Locate, Edge as CurvesOf, Curve, Count, Show, Overlay, Region, Vertical, Batch, Envelope, Attach, Leave, Mirror, LayerRed, LayerBlue}
use Rattle.script_lines.specs.declared.error.LineError.{LineError}
use Rattle.arrangement.specs.Answers.{cut_between, split_at}
use Rattle.planar_run.specs.World.{World}
use Rattle.planar_run.specs.Answer.{one_side, path_sides, AreLosses, AreLossesOfCurve, AreLossesOfEdit}

of_edit : (edit : Edit) (world : World) → (losses : List (List ℕ)) × AreLossesOfEdit losses edit world
of_edit edit world =
    let rounds = 2 * length (steps edit world.layer.present) in
    (replicate rounds [], λ allowed. length-replicate rounds [])

of_curve : (sides : Result (List Segment) ℕ) (world : World) → (losses : List (List ℕ)) × AreLossesOfCurve losses sides world
of_curve (Err number) world = ([], tt)
of_curve (Ok sides) world = of_edit (Insert world.layer.next sides) world

-- whatever the line says
pub no_losses : (world : World) (said : Result Command LineError) → (losses : List (List ℕ)) × AreLosses world losses said
no_losses world (Err error) = ([], tt)
no_losses world (Ok Nothing) = ([], tt)
no_losses world (Ok (AddSegment x1 y1 x2 y2)) = of_curve (one_side (segment_of x1 y1 x2 y2)) world
no_losses world (Ok (AddPath points)) = of_curve (path_sides (path_of points)) world
no_losses world (Ok (Drop c)) = of_edit (DropCurve c) world
no_losses world (Ok (Cut p q)) = of_edit (cut_between p q) world
no_losses world (Ok (Pin p)) = of_edit (PinPoint p) world
no_losses world (Ok (Unpin p)) = of_edit (UnpinPoint p) world
no_losses world (Ok (Split p q r)) = of_edit (split_at p q r) world
no_losses world (Ok (Merge r)) = of_edit (MergeEdges r) world
no_losses world (Ok Clear) = of_edit ClearAll world
no_losses world (Ok (Locate p)) = ([], tt)
no_losses world (Ok (CurvesOf p q)) = ([], tt)
no_losses world (Ok (Curve c)) = ([], tt)
no_losses world (Ok Count) = ([], tt)
no_losses world (Ok Show) = ([], tt)
no_losses world (Ok Overlay) = ([], tt)
no_losses world (Ok (Region op)) = ([], tt)
no_losses world (Ok Vertical) = ([], tt)
no_losses world (Ok (Batch points)) = ([], tt)
no_losses world (Ok (Envelope which)) = ([], tt)
no_losses world (Ok (Attach i when)) = ([], tt)
no_losses world (Ok (Leave i when)) = ([], tt)
no_losses world (Ok (Mirror i)) = ([], tt)
no_losses world (Ok LayerRed) = ([], tt)
no_losses world (Ok LayerBlue) = ([], tt)
