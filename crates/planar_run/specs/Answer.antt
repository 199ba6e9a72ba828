-- What a line is answered, and the world that the next line meets.
use Rattle.std.specs.Prelude.{◌≡◌, ◌≢◌, ◌≤◌, ℕ, true, false, not, ◌⊎◌, List, [], ◌∷◌, ◌++◌, length, map, Option, Some, None, Result, Ok, Err, codes, decimal, if◌then◌else◌, ⊤}
use Rattle.std.specs.List.{count_by, filter, list_any}
use Rattle.observer_bus.specs.declared.went.Went.{Went}
use Rattle.exact_plane.specs.Path.{path_of}
use Rattle.exact_plane.specs.Segment.{Segment}
use Rattle.exact_plane.specs.SegmentOf.{segment_of}
use Rattle.exact_plane.specs.declared.path.PathError.{PathError}
use Rattle.exact_plane.specs.declared.path.PathError.TheVariants as path_error
use Rattle.exact_plane.specs.declared.segment.SegmentError.{SegmentError}
use Rattle.exact_plane.specs.declared.segment.SegmentError.TheVariants.{Range, Equal}
use Rattle.plane_graphs.specs.Graph.{Graph, Edge, edges, curves, same_curve}
use Rattle.edit_steps.specs.Edits.{Edit, Insert, Drop as DropCurve, Pin as PinPoint, Unpin as UnpinPoint, Merge as MergeEdges, ClearAll}
use Rattle.edit_steps.specs.Layer.{layer_after}
use Rattle.edit_steps.specs.Refusals.{Refusal}
use Rattle.slab_laws.specs.Sound.{edge_between}
use Rattle.slab_laws.specs.Subdivision.{Subdivision, subdivision, holds}
use Rattle.slab_laws.specs.Text.{skeleton, present_text}
use Rattle.slab_laws.specs.OverlayText.{presents_text}
use Rattle.set_laws.specs.declared.op.Op.{Op}
use Rattle.set_laws.specs.PolygonSets.{region}
use Rattle.vertical_laws.specs.VerticalText.{vertical_text}
use Rattle.envelope_laws.specs.EnvelopeText.{envelope_text}
use Rattle.script_lines.specs.declared.command.Command.{Command}
use Rattle.script_lines.specs.declared.command.Command.TheVariants.{Nothing, Segment as AddSegment, Path as AddPath, Drop, Cut, Pin, Unpin, Split, Merge, Clear, Locate, Edge as CurvesOf, Curve, Count, Show, Overlay, Region, Vertical, Batch, Envelope, Attach, Leave, Mirror, LayerRed, LayerBlue}
use Rattle.script_lines.specs.declared.error.LineError.{LineError}
use Rattle.script_lines.specs.LineError.{refusal_number as line_number}
use Rattle.script_lines.specs.Command.{command_of}
use Rattle.arrangement.specs.Answers.{cut_between, split_at}
use Rattle.arrangement.specs.Questions.{TakesMemory}
use Rattle.planar_run.specs.World.{blue_of, red_of, turned, World}
use Rattle.planar_run.specs.Observers.{attach_refusal, attached, leaving, report_of, seat_refusal, IsUntold}
use Rattle.planar_run.specs.Rounds.{seated_after, AreFew, AreRoundsOf, Seated}
use Rattle.planar_run.specs.Premises.{graph_of, is_named, is_edge, are_closed}
use Rattle.planar_run.specs.Refusals.{refusal_of, refusal_number}
use Rattle.planar_run.specs.Text.{line_of, cell_text, cells_text, spaced, curve_text, region_text, went_text}

pub record Answer : Type 0 where
  -- the bytes of the reply
  pub text : List ℕ
  -- the world after the line
  pub world : World

-- the line isn't done, and the world stays
abbrev pub refused : ℕ → World → Answer
refused number world = record { text = line_of (codes "refused " ++ decimal number); world = world }

-- a question, which leaves the world as it is
abbrev pub said : List ℕ → World → Answer
said text world = record { text = text; world = world }

-- the world after an edit, in whose rounds these are lost
abbrev pub done : Edit → Seated → World → World
done edit seated world = record world { layer = layer_after edit world.layer; seats = seated.seats }

-- an edit is done: who was lost in its rounds, what these and the edit make of the world, and who joined, left and was lost (this project)
pub record IsDone (edit : Edit) (before after : World) (names : Went) : Type 0 where
  pub losses : List (List ℕ)
  pub are : AreRoundsOf losses edit before
  pub world : after ≡ done edit (seated_after losses before) before
  pub went : names ≡ (seated_after losses before).went
  pub few : AreFew names

-- an edit that there is this reason to refuse, or none
abbrev pub edited_unless : Option Refusal → List ℕ → Edit → List (List ℕ) → World → Answer
edited_unless (Some reason) text edit losses world = refused (refusal_number reason) world
edited_unless None text edit losses world = record { text = line_of (text ++ went_text (seated_after losses world).went); world = done edit (seated_after losses world) world }

-- an edit: it is refused for the first reason that holds, or done
abbrev pub edited : List ℕ → Edit → List (List ℕ) → World → Answer
edited text edit losses world = edited_unless (refusal_of world edit) text edit losses world

-- a line on an observer that there is this reason to refuse, or none
abbrev pub unless : Option ℕ → Answer → World → Answer
unless (Some number) answer world = refused number world
unless None answer world = answer

-- the subdivision of the plane by the present segments and points, built afresh
abbrev pub subdivision_of : World → Subdivision
subdivision_of world = subdivision (skeleton (graph_of world))

-- 9, no edge joins the points
abbrev pub curves_told : Edge → World → Answer
curves_told e world =
    if is_edge e world then said (line_of (codes "curves" ++ spaced (curves (graph_of world) e.low e.high))) world
    else refused 9 world

-- the edges along which the curve runs, in their order
abbrev pub edges_along : ℕ → Graph → List Edge
edges_along c g = filter (λ e. list_any (same_curve c) (curves g e.low e.high)) (edges g)

-- 8, no curve has this number
abbrev pub curve_told : ℕ → World → Answer
curve_told c world =
    if is_named c world then said (curve_text c (edges_along c (graph_of world))) world
    else refused 8 world

-- 19, a layer isn't closed
abbrev pub region_told : Op → World → Answer
region_told op world =
    if are_closed world then said (region_text (region op (red_of world).layer.present (blue_of world).layer.present)) world
    else refused 19 world

-- 7, the ends are equal; 4, a coordinate is out of its range, which no line that was read has
abbrev pub segment_refusal : SegmentError → ℕ
segment_refusal Range = 4
segment_refusal Equal = 7

-- 7, two neighbouring points are equal; 2, there aren't two to nine points, and 4, a coordinate is out of its range, which no line that was read has
abbrev pub path_refusal : PathError → ℕ
path_refusal path_error.Count = 2
path_refusal path_error.Range = 4
path_refusal path_error.Equal = 7

-- the sides of a curve that is a segment or a path, or the number of the refusal
abbrev pub one_side : Result Segment SegmentError → Result (List Segment) ℕ
one_side (Err error) = Err (segment_refusal error)
one_side (Ok s) = Ok (s ∷ [])

abbrev pub path_sides : Result (List Segment) PathError → Result (List Segment) ℕ
path_sides (Err error) = Err (path_refusal error)
path_sides (Ok sides) = Ok sides

-- sides become the curve of the next number
abbrev pub drawing : Result (List Segment) ℕ → List (List ℕ) → World → Answer
drawing (Err number) losses world = refused number world
drawing (Ok sides) losses world = edited (codes "ok " ++ decimal world.layer.next) (Insert world.layer.next sides) losses world

-- vertices, edges, faces, inner cycles, isolated vertices, and the curves that have a name
abbrev pub counted : Subdivision → ℕ → List ℕ
counted s curves =
    length s.graph.vertices ∷ length s.graph.edges ∷ length s.faces ∷ count_by (λ c. not c.outer) s.cycles ∷ length s.bare ∷ curves ∷ []

-- what a line that says this is answered with ample memory, where these are lost in the rounds of its edit
abbrev pub answer_to : World → List (List ℕ) → Result Command LineError → Answer
answer_to world losses (Err error) = refused (line_number error) world
answer_to world losses (Ok Nothing) = said [] world
answer_to world losses (Ok (AddSegment x1 y1 x2 y2)) = drawing (one_side (segment_of x1 y1 x2 y2)) losses world
answer_to world losses (Ok (AddPath points)) = drawing (path_sides (path_of points)) losses world
answer_to world losses (Ok (Drop c)) = edited (codes "ok") (DropCurve c) losses world
answer_to world losses (Ok (Cut p q)) = edited (codes "ok") (cut_between p q) losses world
answer_to world losses (Ok (Pin p)) = edited (codes "ok") (PinPoint p) losses world
answer_to world losses (Ok (Unpin p)) = edited (codes "ok") (UnpinPoint p) losses world
answer_to world losses (Ok (Split p q r)) = edited (codes "ok") (split_at p q r) losses world
answer_to world losses (Ok (Merge r)) = edited (codes "ok") (MergeEdges r) losses world
answer_to world losses (Ok Clear) = edited (codes "ok") ClearAll losses world
answer_to world losses (Ok (Locate p)) = said (line_of (cell_text (holds (subdivision_of world) p))) world
answer_to world losses (Ok (CurvesOf p q)) = curves_told (edge_between p q) world
answer_to world losses (Ok (Curve c)) = curve_told c world
answer_to world losses (Ok Count) = said (line_of (codes "counts" ++ spaced (counted (subdivision_of world) (length world.layer.names)))) world
answer_to world losses (Ok Show) = said (present_text world.layer.present) world
answer_to world losses (Ok Overlay) = said (presents_text (red_of world).layer.present (blue_of world).layer.present) world
answer_to world losses (Ok (Region op)) = region_told op world
answer_to world losses (Ok Vertical) = said (vertical_text (skeleton (graph_of world))) world
answer_to world losses (Ok (Batch points)) = said (cells_text (map (holds (subdivision_of world)) points)) world
answer_to world losses (Ok (Envelope which)) = said (envelope_text which world.layer.present) world
answer_to world losses (Ok (Attach i when)) = unless (attach_refusal i world) (record { text = line_of (codes "ok"); world = attached i when world }) world
answer_to world losses (Ok (Leave i when)) = unless (seat_refusal i world) (record { text = line_of (codes "ok"); world = leaving i when world }) world
answer_to world losses (Ok (Mirror i)) = unless (seat_refusal i world) (said (report_of i world) world) world
answer_to world losses (Ok LayerRed) = record { text = line_of (codes "ok"); world = turned false world }
answer_to world losses (Ok LayerBlue) = record { text = line_of (codes "ok"); world = turned true world }

-- the losses are of just the rounds of the edit, where it isn't refused
abbrev pub AreLossesOfEdit : List (List ℕ) → Edit → World → Type 0
AreLossesOfEdit losses edit world = refusal_of world edit ≡ None → AreRoundsOf losses edit world

abbrev pub AreLossesOfCurve : List (List ℕ) → Result (List Segment) ℕ → World → Type 0
AreLossesOfCurve losses (Err number) world = ⊤
AreLossesOfCurve losses (Ok sides) world = AreLossesOfEdit losses (Insert world.layer.next sides) world

-- the losses are of just the rounds that the line's edit has, where it isn't refused (this project)
abbrev pub AreLosses : World → List (List ℕ) → Result Command LineError → Type 0
AreLosses world losses (Ok (AddSegment x1 y1 x2 y2)) = AreLossesOfCurve losses (one_side (segment_of x1 y1 x2 y2)) world
AreLosses world losses (Ok (AddPath points)) = AreLossesOfCurve losses (path_sides (path_of points)) world
AreLosses world losses (Ok (Drop c)) = AreLossesOfEdit losses (DropCurve c) world
AreLosses world losses (Ok (Cut p q)) = AreLossesOfEdit losses (cut_between p q) world
AreLosses world losses (Ok (Pin p)) = AreLossesOfEdit losses (PinPoint p) world
AreLosses world losses (Ok (Unpin p)) = AreLossesOfEdit losses (UnpinPoint p) world
AreLosses world losses (Ok (Split p q r)) = AreLossesOfEdit losses (split_at p q r) world
AreLosses world losses (Ok (Merge r)) = AreLossesOfEdit losses (MergeEdges r) world
AreLosses world losses (Ok Clear) = AreLossesOfEdit losses ClearAll world
AreLosses world losses other = ⊤

-- a segment or a path is answered, and leaves this world, whoever is lost in its rounds (this project)
abbrev pub IsDrawn : Result (List Segment) ℕ → World → List ℕ → World → Type 0
IsDrawn sides world text after =
    (losses : List (List ℕ)) × AreLossesOfCurve losses sides world × (text ≡ (drawing sides losses world).text) × (after ≡ (drawing sides losses world).world)

-- a segment or a path may need memory where it isn't refused
abbrev pub MayDraw : Result (List Segment) ℕ → World → Type 0
MayDraw (Err number) world = ⊥
MayDraw (Ok sides) world = refusal_of world (Insert world.layer.next sides) ≡ None

-- the line may need memory: it isn't refused, and what it says needs some
abbrev pub MayTake : World → Result Command LineError → Type 0
MayTake world (Err error) = ⊥
MayTake world (Ok Nothing) = ⊥
MayTake world (Ok (AddSegment x1 y1 x2 y2)) = MayDraw (one_side (segment_of x1 y1 x2 y2)) world
MayTake world (Ok (AddPath points)) = MayDraw (path_sides (path_of points)) world
MayTake world (Ok (Drop c)) = refusal_of world (DropCurve c) ≡ None
MayTake world (Ok (Cut p q)) = refusal_of world (cut_between p q) ≡ None
MayTake world (Ok (Pin p)) = refusal_of world (PinPoint p) ≡ None
MayTake world (Ok (Unpin p)) = ⊥
MayTake world (Ok (Split p q r)) = refusal_of world (split_at p q r) ≡ None
MayTake world (Ok (Merge r)) = ⊥
MayTake world (Ok Clear) = ⊥
MayTake world (Ok (Locate p)) = TakesMemory world.strategy
MayTake world (Ok (CurvesOf p q)) = is_edge (edge_between p q) world ≡ true
MayTake world (Ok (Curve c)) = is_named c world ≡ true
MayTake world (Ok Count) = ⊥
MayTake world (Ok Show) = ⊤
MayTake world (Ok Overlay) = ⊤
MayTake world (Ok (Region op)) = are_closed world ≡ true
MayTake world (Ok Vertical) = ⊤
MayTake world (Ok (Batch points)) = ⊤
MayTake world (Ok (Envelope which)) = ⊤
MayTake world (Ok (Attach i when)) = attach_refusal i world ≡ None
MayTake world (Ok (Leave i when)) = ⊥
MayTake world (Ok (Mirror i)) = seat_refusal i world ≡ None
MayTake world (Ok LayerRed) = ⊥
MayTake world (Ok LayerBlue) = ⊥

-- the observers of a line and its rounds are counted from 1 (this project)
abbrev pub IsNumbered : Command → Type 0
IsNumbered (Attach i when) = (1 ≤ i) × (when ≢ Some 0)
IsNumbered (Leave i when) = (1 ≤ i) × (when ≢ Some 0)
IsNumbered (Mirror i) = 1 ≤ i
IsNumbered other = ⊤

-- the line asks an observer for its report that is seated and tells no view
abbrev pub AsksUntold : World → Result Command LineError → Type 0
AsksUntold world (Ok (Mirror i)) = (seat_refusal i world ≡ None) × IsUntold i world
AsksUntold world other = ⊥

-- a line that says this is answered as the world demands, whoever is lost in the rounds of its edit
abbrev pub IsAnswered : World → Result Command LineError → List ℕ → World → Type 0
IsAnswered world said text after =
    (losses : List (List ℕ)) × AreLosses world losses said × (text ≡ (answer_to world losses said).text) × (after ≡ (answer_to world losses said).world)

-- it is; or, where it may need memory, that there is none, and then the world stays; or with any bytes, where they are the report of an observer that tells no view
abbrev pub Obeys : World → Result Command LineError → List ℕ → World → Type 0
Obeys world said text after =
    IsAnswered world said text after
    ⊎ ((MayTake world said × (text ≡ line_of (codes "no memory")) × (after ≡ world)) ⊎ (AsksUntold world said × (after ≡ world)))

-- the same of a line that doesn't want memory
abbrev pub IsObeyed : World → Result Command LineError → List ℕ → World → Type 0
IsObeyed world said text after = IsAnswered world said text after ⊎ (AsksUntold world said × (after ≡ world))

abbrev pub Replies : World → List ℕ → List ℕ → World → Type 0
Replies world line text after = Obeys world (command_of line) text after
