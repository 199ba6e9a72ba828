-- What a line is answered that is refused, and what of a line is obeyed.
use Rattle.std.proofs.Common.{◌≡◌, ℕ, Bool, true, false, List, [], ◌∷◌, ◌++◌, map, Option, Some, None, Result, Ok, Err, refl, sym, ap, ap₂, subst, ◌∙◌, inl, inr}
use Rattle.std.specs.Prelude.{OnErr, OnOk, not, ℤ, codes, decimal, if◌then◌else◌}
use Rattle.std.specs.Fmt.{digits}
use Rattle.std.proofs.lemmas.List.{length-map}
use Rattle.std.proofs.lemmas.List.Folds.{flat_map-map}
use Rattle.exact_plane.specs.Point.{Point}
use Rattle.exact_plane.specs.Segment.{Segment}
use Rattle.exact_plane.specs.SegmentOf.{segment_of}
use Rattle.plane_graphs.specs.Graph.{Edge, curves}
use Rattle.edit_steps.specs.Edits.{Edit, Insert}
use Rattle.edit_steps.specs.Refusals.{Refusal}
use Rattle.slab_laws.specs.Darts.{Dart}
use Rattle.set_laws.specs.declared.op.Op.{Op}
use Rattle.set_laws.specs.PolygonSets.{region}
use Rattle.polygon_sets.specs.Regions.{dart_ends}
use Rattle.script_lines.specs.LineError.{refusal_number as line_number}
use Rattle.script_lines.specs.declared.error.LineError.{LineError}
use Rattle.script_lines.specs.declared.command.Command.{Command}
use Rattle.script_lines.specs.declared.command.Command.TheVariants.{Mirror, Region}
use Rattle.planar_run.specs.Text.{line_of, spaced, ends_line, curve_text, region_text, border_text}
use Rattle.planar_run.specs.World.{blue_of, red_of, World}
use Rattle.planar_run.specs.Premises.{graph_of, is_named, is_edge, are_closed}
use Rattle.planar_run.specs.Refusals.{refusal_of, refusal_number}
use Rattle.planar_run.specs.Observers.{report_of, seat_refusal, is_above, is_seated, IsReportIn}
use Rattle.planar_run.specs.Answer.{Answer, AreLossesOfEdit, refused, said, edited, edited_unless, edges_along, curves_told, curve_told, region_told, unless, IsAnswered, IsDrawn, IsObeyed, MayDraw, MayTake, Obeys}

-- the bytes and the world of an answer
abbrev Gives : Answer → List ℕ → World → Type 0
Gives a text after = (text ≡ a.text) × (after ≡ a.world)

refusal_given : (n : ℕ) (w after : World) (text : List ℕ) (a : Answer) → a ≡ refused n w → text ≡ line_of (codes "refused " ++ decimal n) → after ≡ w → Gives a text after
refusal_given n w after text a is t s = (t ∙ ap (λ (a : Answer). a.text) (sym is), s ∙ ap (λ (a : Answer). a.world) (sym is))

-- ---- edits
-- an edit that is refused
pub not_edited : (ok : List ℕ) (e : Edit) (r : Refusal) {w after : World} {text : List ℕ} → Some r ≡ refusal_of w e → text ≡ line_of (codes "refused " ++ decimal (refusal_number r)) → after ≡ w →
    (losses : List (List ℕ)) × AreLossesOfEdit losses e w × (text ≡ (edited ok e losses w).text) × (after ≡ (edited ok e losses w).world)
not_edited ok e r {w = w} {after = after} {text = text} h t s =
    let g : Gives (edited ok e [] w) text after = refusal_given (refusal_number r) w after text (edited ok e [] w) (ap (λ o. edited_unless o ok e [] w) (sym h)) t s in
    ([], λ none. cc, g.0, g.1)

-- sides that are refused
pub not_inserted : (sides : List Segment) (r : Refusal) {w after : World} {text : List ℕ} → Some r ≡ refusal_of w (Insert w.layer.next sides) → text ≡ line_of (codes "refused " ++ decimal (refusal_number r)) → after ≡ w → IsDrawn (Ok sides) w text after
not_inserted sides r {w = w} h t e = not_edited (codes "ok " ++ decimal w.layer.next) (Insert w.layer.next sides) r h t e

-- what is no segment, and no path
pub not_drawn : (n : ℕ) {r : Result (List Segment) ℕ} {text : List ℕ} (w : World) → Err n ≡ r → text ≡ line_of (codes "refused " ++ decimal n) → IsDrawn r w text w
not_drawn n {text = text} w is t = subst (λ r. IsDrawn r w text w) is ([], tt, t, refl)

-- ---- questions
told_by : (b c : Bool) (x y : Answer) → b ≡ c → (if b then x else y) ≡ (if c then x else y)
told_by b c x y e = ap (λ (b : Bool). if b then x else y) e

-- an edge that isn't there
pub no_edge_told : (e : Edge) (w : World) {text : List ℕ} → is_edge e w ≡ false → text ≡ line_of (codes "refused " ++ decimal 9) → List (List ℕ) × Unit {0} × (text ≡ (curves_told e w).text) × (w ≡ (curves_told e w).world)
no_edge_told e w {text = text} h t =
    let g : Gives (curves_told e w) text w = refusal_given 9 w w text (curves_told e w) (told_by (is_edge e w) false (said (line_of (codes "curves" ++ spaced (curves (graph_of w) e.low e.high))) w) (refused 9 w) h) t refl in
    ([], tt, g.0, g.1)

-- a curve that isn't there
pub no_curve_told : (c : ℕ) (w : World) {text : List ℕ} → is_named c w ≡ false → text ≡ line_of (codes "refused " ++ decimal 8) → List (List ℕ) × Unit {0} × (text ≡ (curve_told c w).text) × (w ≡ (curve_told c w).world)
no_curve_told c w {text = text} h t =
    let g : Gives (curve_told c w) text w = refusal_given 8 w w text (curve_told c w) (told_by (is_named c w) false (said (curve_text c (edges_along c (graph_of w))) w) (refused 8 w) h) t refl in
    ([], tt, g.0, g.1)

-- layers that aren't both closed
abbrev region_of : Op → World → List Dart
region_of op w = region op (red_of w).layer.present (blue_of w).layer.present

pub no_region_told : (op : Op) (w : World) {text : List ℕ} → are_closed w ≡ false → text ≡ line_of (codes "refused " ++ decimal 19) → List (List ℕ) × Unit {0} × (text ≡ (region_told op w).text) × (w ≡ (region_told op w).world)
no_region_told op w {text = text} h t =
    let g : Gives (region_told op w) text w = refusal_given 19 w w text (region_told op w) (told_by (are_closed w) false (said (region_text (region_of op w)) w) (refused 19 w) h) t refl in
    ([], tt, g.0, g.1)

-- layers that are: the border by the ends of its darts
border_told : (ds : List Dart) → border_text (map dart_ends ds) ≡ region_text ds
border_told ds = ap₂ (λ (n : ℕ) (lines : List ℕ). line_of (codes "region " ++ decimal n) ++ (lines ++ line_of (codes "end"))) (length-map ds dart_ends) (flat_map-map (ends_line (codes "b ")) dart_ends ds)

pub border_answered : {T E : Type 0} (o : Result T E) (op : Op) (w : World) (start text : List ℕ) (darts : List (Point × Point)) → start ≡ [] → are_closed w ≡ true → darts ≡ map dart_ends (region_of op w) → OnOk o (text ≡ start ++ border_text darts) → OnOk o (IsAnswered w (Ok (Region op)) text w)
border_answered (Ok x) op w start text darts empty closed are h =
    let told : region_told op w ≡ said (region_text (region_of op w)) w = told_by (are_closed w) true (said (region_text (region_of op w)) w) (refused 19 w) closed in
    ([], tt, h ∙ ap₂ (λ (s : List ℕ) (ds : List (Point × Point)). s ++ border_text ds) empty are ∙ border_told (region_of op w) ∙ ap (λ (a : Answer). a.text) (sym told), ap (λ (a : Answer). a.world) (sym told))
border_answered (Err e) op w start text darts empty closed are h = tt

-- ---- lines on observers
-- a line that there is a reason to refuse
pub not_obeyed : (n : ℕ) {reason : Option ℕ} (a : Answer) {w after : World} {text : List ℕ} → Some n ≡ reason → text ≡ line_of (codes "refused " ++ decimal n) → after ≡ w → List (List ℕ) × Unit {0} × (text ≡ (unless reason a w).text) × (after ≡ (unless reason a w).world)
not_obeyed n a {w = w} {after = after} {text = text} h t s =
    subst (λ o. List (List ℕ) × Unit {0} × (text ≡ (unless o a w).text) × (after ≡ (unless o a w).world)) h ([], tt, t, s)

-- a line that there is none to refuse
pub unrefused : {reason : Option ℕ} (a : Answer) (w : World) {after : World} {text : List ℕ} → reason ≡ None → text ≡ a.text → after ≡ a.world → List (List ℕ) × Unit {0} × (text ≡ (unless reason a w).text) × (after ≡ (unless reason a w).world)
unrefused a w {after = after} {text = text} h t s =
    subst (λ o. List (List ℕ) × Unit {0} × (text ≡ (unless o a w).text) × (after ≡ (unless o a w).world)) (sym h) ([], tt, t, s)

-- an observer that wasn't handed in
above_refused : (b : Bool) (x y : Option ℕ) → false ≡ not b → x ≡ (if b then x else y)
above_refused true x y h = refl
above_refused false x y h = cc

pub none_handed_in : (i : ℕ) (w : World) → false ≡ not (is_above i w) → Some 14 ≡ seat_refusal i w
none_handed_in i w h = above_refused (is_above i w) (Some 14) (if is_seated i w then None else Some 16) h

-- one that was, and isn't seated
unseated_refused : (b c : Bool) (x y z : Option ℕ) → true ≡ not b → c ≡ false → z ≡ (if b then x else (if c then y else z))
unseated_refused true c x y z h s = cc
unseated_refused false true x y z h s = cc
unseated_refused false false x y z h s = refl

pub none_seated : (i : ℕ) (w : World) → true ≡ not (is_above i w) → is_seated i w ≡ false → Some 16 ≡ seat_refusal i w
none_seated i w h s = unseated_refused (is_above i w) (is_seated i w) (Some 14) None (Some 16) h s

-- one that is
seated_told : (b c : Bool) (x y : Option ℕ) → true ≡ not b → true ≡ c → (if b then x else (if c then None else y)) ≡ None
seated_told true c x y h s = cc
seated_told false true x y h s = refl
seated_told false false x y h s = cc

pub seated_asked : (i : ℕ) (w : World) → true ≡ not (is_above i w) → true ≡ is_seated i w → seat_refusal i w ≡ None
seated_asked i w h s = seated_told (is_above i w) (is_seated i w) (Some 14) (Some 16) h s

-- its report
pub report_told : (i : ℕ) (w : World) (text bytes : List ℕ) → seat_refusal i w ≡ None → IsReportIn i w bytes → text ≡ bytes → IsObeyed w (Ok (Mirror i)) text w
report_told i w text bytes none (inl untold) e = inr ((none, untold), refl)
report_told i w text bytes none (inr told) e =
    inl ([], tt, e ∙ told ∙ ap (λ o. (unless o (said (report_of i w) w) w).text) (sym none), ap (λ o. (unless o (said (report_of i w) w) w).world) (sym none))

-- ---- numbers in decimal
pub two : codes "refused 2" ++ 10 ∷ [] ≡ line_of (codes "refused " ++ decimal 2)
unfolding digits
two = refl

pub four : codes "refused 4" ++ 10 ∷ [] ≡ line_of (codes "refused " ++ decimal 4)
unfolding digits
four = refl

pub seven : codes "refused 7" ++ 10 ∷ [] ≡ line_of (codes "refused " ++ decimal 7)
unfolding digits
seven = refl

pub eight : codes "refused 8" ++ 10 ∷ [] ≡ line_of (codes "refused " ++ decimal 8)
unfolding digits
eight = refl

pub nine : codes "refused 9" ++ 10 ∷ [] ≡ line_of (codes "refused " ++ decimal 9)
unfolding digits
nine = refl

pub ten : codes "refused 10" ++ 10 ∷ [] ≡ line_of (codes "refused " ++ decimal 10)
unfolding digits
ten = refl

pub eleven : codes "refused 11" ++ 10 ∷ [] ≡ line_of (codes "refused " ++ decimal 11)
unfolding digits
eleven = refl

pub twelve : codes "refused 12" ++ 10 ∷ [] ≡ line_of (codes "refused " ++ decimal 12)
unfolding digits
twelve = refl

pub thirteen : codes "refused 13" ++ 10 ∷ [] ≡ line_of (codes "refused " ++ decimal 13)
unfolding digits
thirteen = refl

pub fourteen : codes "refused 14" ++ 10 ∷ [] ≡ line_of (codes "refused " ++ decimal 14)
unfolding digits
fourteen = refl

pub fifteen : codes "refused 15" ++ 10 ∷ [] ≡ line_of (codes "refused " ++ decimal 15)
unfolding digits
fifteen = refl

pub sixteen : codes "refused 16" ++ 10 ∷ [] ≡ line_of (codes "refused " ++ decimal 16)
unfolding digits
sixteen = refl

pub seventeen : codes "refused 17" ++ 10 ∷ [] ≡ line_of (codes "refused " ++ decimal 17)
unfolding digits
seventeen = refl

pub eighteen : codes "refused 18" ++ 10 ∷ [] ≡ line_of (codes "refused " ++ decimal 18)
unfolding digits
eighteen = refl

pub nineteen : codes "refused 19" ++ 10 ∷ [] ≡ line_of (codes "refused " ++ decimal 19)
unfolding digits
nineteen = refl

-- ---- segments
-- four numbers that are four others
pub same_segment : (a b c d x y z w : ℤ) → a ≡ x → b ≡ y → c ≡ z → d ≡ w → segment_of a b c d ≡ segment_of x y z w
same_segment a b c d x y z w e f g h = λ i. segment_of (e i) (f i) (g i) (h i)

-- what is said of the sides of a curve is said of those that are the same
pub drawn_by : {T E : Type 0} (o : Result T E) (r s : Result (List Segment) ℕ) (w : World) (text : List ℕ) (after : World) → r ≡ s → OnOk o (IsDrawn r w text after) → OnOk o (IsDrawn s w text after)
drawn_by o r s w text after is h = subst (λ r. OnOk o (IsDrawn r w text after)) is h

pub undrawn_by : {T E : Type 0} (o : Result T E) (r s : Result (List Segment) ℕ) (w after : World) → r ≡ s → OnErr o (MayDraw r w × (after ≡ w)) → OnErr o (MayDraw s w × (after ≡ w))
undrawn_by o r s w after is h = subst (λ r. OnErr o (MayDraw r w × (after ≡ w))) is h

-- ---- all lines
-- what is answered as it asks is obeyed, by whatever command it is
pub obeyed_by : {T E : Type 0} (o : Result T E) (c d : Command) (w : World) (text : List ℕ) (after : World) → c ≡ d → OnOk o (IsAnswered w (Ok d) text after) → OnOk o (IsObeyed w (Ok c) text after)
obeyed_by (Ok x) c d w text after e h = inl (subst (λ c. IsAnswered w (Ok c) text after) (sym e) h)
obeyed_by (Err y) c d w text after e h = tt

pub answered_as : (c d : Command) (w : World) (text : List ℕ) (after : World) → c ≡ d → IsAnswered w (Ok d) text after → IsObeyed w (Ok c) text after
answered_as c d w text after e h = inl (subst (λ c. IsAnswered w (Ok c) text after) (sym e) h)

-- what may need memory may, by whatever command it is
pub taken_by : {T E : Type 0} (o : Result T E) (c d : Command) (w after : World) → c ≡ d → OnErr o (MayTake w (Ok d) × (after ≡ w)) → OnErr o (MayTake w (Ok c) × (after ≡ w))
taken_by (Ok x) c d w after e h = tt
taken_by (Err y) c d w after e h = (subst (λ c. MayTake w (Ok c)) (sym e) h.0, h.1)

-- the same of a line that may ask for an untold report
pub mirrored_by : {T E : Type 0} (o : Result T E) (c d : Command) (w : World) (text : List ℕ) (after : World) → c ≡ d → OnOk o (IsObeyed w (Ok d) text after) → OnOk o (IsObeyed w (Ok c) text after)
mirrored_by (Ok x) c d w text after e h = subst (λ c. IsObeyed w (Ok c) text after) (sym e) h
mirrored_by (Err y) c d w text after e h = tt

-- what may need memory and leaves the world as it is; a question that always may
pub wanted_by : {T E : Type 0} (o : Result T E) (c d : Command) (w : World) → c ≡ d → OnErr o (MayTake w (Ok d)) → OnErr o (MayTake w (Ok c) × (w ≡ w))
wanted_by (Ok x) c d w e h = tt
wanted_by (Err y) c d w e h = (subst (λ c. MayTake w (Ok c)) (sym e) h, refl)

pub always_wanted : {T E : Type 0} (o : Result T E) (c d : Command) (w : World) → c ≡ d → MayTake w (Ok d) → OnErr o (MayTake w (Ok c) × (w ≡ w))
always_wanted (Ok x) c d w e h = tt
always_wanted (Err y) c d w e h = (subst (λ c. MayTake w (Ok c)) (sym e) h, refl)

-- a line that is no command
pub refused_line : (e : LineError) (said : Result Command LineError) (w : World) (text : List ℕ) → Err e ≡ said → text ≡ line_of (codes "refused " ++ decimal (line_number e)) → Obeys w said text w
refused_line e said w text is t = subst (λ said. Obeys w said text w) is (inl ([], tt, t, refl))

-- one that is obeyed, and one that found no memory
pub obeyed_line : (c : Command) (said : Result Command LineError) (w : World) (text : List ℕ) (after : World) → Ok c ≡ said → IsObeyed w (Ok c) text after → Obeys w said text after
obeyed_line c said w text after is (inl a) = subst (λ said. Obeys w said text after) is (inl a)
obeyed_line c said w text after is (inr u) = subst (λ said. Obeys w said text after) is (inr (inr u))

pub wanting_line : (c : Command) (said : Result Command LineError) (w : World) (text : List ℕ) (after : World) → Ok c ≡ said → MayTake w (Ok c) × (after ≡ w) → text ≡ line_of (codes "no memory") → Obeys w said text after
wanting_line c said w text after is m t = subst (λ said. Obeys w said text after) is (inr (inl (m.0, t, m.1)))
