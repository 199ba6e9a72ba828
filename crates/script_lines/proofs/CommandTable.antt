-- The table of commands: its names, and what its forms make.
use Rattle.std.proofs.Common.{◌≡◌, ℕ, Bool, true, false, ℤ, cond, List, [], ◌∷◌, Option, Some, None, refl, sym, subst}
use Rattle.std.specs.Prelude.{◌≢◌, map, option_map, bytes_eq, find}
use Rattle.std.specs.List.{list_all}
use Rattle.std.proofs.lemmas.Slice.Eq.{bytes_eq-Decides}
use Rattle.exact_plane.specs.Segment.{is_coordinate, are_coordinates}
use Rattle.script_lines.specs.declared.command.Command.{Command}
use Rattle.script_lines.specs.declared.command.Command.TheVariants.{Nothing, Segment, Path, Drop, Cut, Pin, Unpin, Split, Merge, Locate, Edge, Curve, Batch, Attach, Leave, Mirror}
use Rattle.script_lines.specs.declared.name.Name.{Name}
use Rattle.script_lines.specs.declared.name.Name.TheVariants as name
use Rattle.script_lines.specs.Form.{Form, form_map}
use Rattle.script_lines.specs.Command.{segment_from, pairs, path_form, batch_form, batch_from, point_form, pair_form, triple_form, curve_form, observer_form, observer_when_forms, row_of, names, name_of, is_comment}
use Rattle.script_lines.proofs.ListTests.{find-passes}

-- each name is found by how it is spelt
pub name_of-name : (n : Name) → name_of (row_of n).name ≡ Some n
name_of-name name.Segment = refl
name_of-name name.Path = refl
name_of-name name.Drop = refl
name_of-name name.Cut = refl
name_of-name name.Pin = refl
name_of-name name.Unpin = refl
name_of-name name.Split = refl
name_of-name name.Merge = refl
name_of-name name.Clear = refl
name_of-name name.Locate = refl
name_of-name name.Edge = refl
name_of-name name.Curve = refl
name_of-name name.Count = refl
name_of-name name.Show = refl
name_of-name name.Overlay = refl
name_of-name name.Region = refl
name_of-name name.Vertical = refl
name_of-name name.Batch = refl
name_of-name name.Envelope = refl
name_of-name name.Attach = refl
name_of-name name.Leave = refl
name_of-name name.Mirror = refl
name_of-name name.Layer = refl

-- none begins a comment
pub no_comment : (n : Name) → is_comment (row_of n).name ≡ false
no_comment name.Segment = refl
no_comment name.Path = refl
no_comment name.Drop = refl
no_comment name.Cut = refl
no_comment name.Pin = refl
no_comment name.Unpin = refl
no_comment name.Split = refl
no_comment name.Merge = refl
no_comment name.Clear = refl
no_comment name.Locate = refl
no_comment name.Edge = refl
no_comment name.Curve = refl
no_comment name.Count = refl
no_comment name.Show = refl
no_comment name.Overlay = refl
no_comment name.Region = refl
no_comment name.Vertical = refl
no_comment name.Batch = refl
no_comment name.Envelope = refl
no_comment name.Attach = refl
no_comment name.Leave = refl
no_comment name.Mirror = refl
no_comment name.Layer = refl

-- no form makes nothing
abbrev pub AskFor : List (Form Command) → Type 0
AskFor [] = Unit {0}
AskFor (form ∷ forms) = ((numbers : List ℤ) → form.made numbers ≡ Some Nothing → ⊥) × AskFor forms

mapped : {A : Type 0} (f : A → Command) → ((x : A) → f x ≡ Nothing → ⊥) → (o : Option A) → option_map f o ≡ Some Nothing → ⊥
mapped f other None e = absurd cc
mapped f other (Some x) e = other x cc

segment_by : (within : Bool) (x1 y1 x2 y2 : ℤ) → cond within (Some (Segment x1 y1 x2 y2)) None ≡ Some Nothing → ⊥
segment_by true x1 y1 x2 y2 e = cc
segment_by false x1 y1 x2 y2 e = cc

segment_asks : (numbers : List ℤ) → segment_from numbers ≡ Some Nothing → ⊥
segment_asks (x1 ∷ y1 ∷ x2 ∷ y2 ∷ []) e = segment_by (are_coordinates x1 y1 x2 y2) x1 y1 x2 y2 e
segment_asks other e = cc

path_by : (within : Bool) (points : List (ℤ × ℤ)) → cond within (Some (Path points)) None ≡ Some Nothing → ⊥
path_by true points e = cc
path_by false points e = cc

path_asks : (counts : List ℕ) → AskFor (map path_form counts)
path_asks [] = tt
path_asks (count ∷ counts) = (λ numbers e. path_by (list_all is_coordinate numbers) (pairs numbers) e, path_asks counts)

batch_asks : (counts : List ℕ) → AskFor (map batch_form counts)
batch_asks [] = tt
batch_asks (count ∷ counts) = (λ numbers e. mapped Batch (λ points h. cc) (batch_from numbers) e, batch_asks counts)

mapped_asks : {A : Type 0} (f : A → Command) (forms : List (Form A)) → ((x : A) → f x ≡ Nothing → ⊥) → AskFor (map (form_map f) forms)
mapped_asks f [] other = tt
mapped_asks f (form ∷ forms) other = (λ numbers e. mapped f other (form.made numbers) e, mapped_asks f forms other)

pub ask_for : (n : Name) → AskFor (row_of n).forms
ask_for name.Segment = (segment_asks, tt)
ask_for name.Path = path_asks (4 ∷ 6 ∷ 8 ∷ 10 ∷ 12 ∷ 14 ∷ 16 ∷ 18 ∷ [])
ask_for name.Drop = mapped_asks Drop (curve_form ∷ []) (λ c h. cc)
ask_for name.Cut = mapped_asks (λ points. Cut points.0 points.1) (pair_form ∷ []) (λ points h. cc)
ask_for name.Pin = mapped_asks Pin (point_form ∷ []) (λ p h. cc)
ask_for name.Unpin = mapped_asks Unpin (point_form ∷ []) (λ p h. cc)
ask_for name.Split = mapped_asks (λ points. Split points.0.0 points.0.1 points.1) (triple_form ∷ []) (λ points h. cc)
ask_for name.Merge = mapped_asks Merge (point_form ∷ []) (λ p h. cc)
ask_for name.Clear = (λ numbers e. cc, tt)
ask_for name.Locate = mapped_asks Locate (point_form ∷ []) (λ p h. cc)
ask_for name.Edge = mapped_asks (λ points. Edge points.0 points.1) (pair_form ∷ []) (λ points h. cc)
ask_for name.Curve = mapped_asks Curve (curve_form ∷ []) (λ c h. cc)
ask_for name.Count = (λ numbers e. cc, tt)
ask_for name.Show = (λ numbers e. cc, tt)
ask_for name.Overlay = (λ numbers e. cc, tt)
ask_for name.Region = (λ numbers e. cc, (λ numbers e. cc, (λ numbers e. cc, (λ numbers e. cc, tt))))
ask_for name.Vertical = (λ numbers e. cc, tt)
ask_for name.Batch = batch_asks (3 ∷ 6 ∷ 9 ∷ 12 ∷ 15 ∷ 18 ∷ 21 ∷ 24 ∷ [])
ask_for name.Envelope = (λ numbers e. cc, (λ numbers e. cc, tt))
ask_for name.Attach = mapped_asks (λ entry. Attach entry.0 entry.1) observer_when_forms (λ entry h. cc)
ask_for name.Leave = mapped_asks (λ entry. Leave entry.0 entry.1) observer_when_forms (λ entry h. cc)
ask_for name.Mirror = mapped_asks Mirror (observer_form ∷ []) (λ i h. cc)
ask_for name.Layer = (λ numbers e. cc, (λ numbers e. cc, tt))

asks_by : (p : Form Command → Bool) (here : Bool) (first form : Form Command) (later : Option (Form Command)) → cond here (Some first) later ≡ Some form
    → ((numbers : List ℤ) → first.made numbers ≡ Some Nothing → ⊥) → (later ≡ Some form → (numbers : List ℤ) → form.made numbers ≡ Some Nothing → ⊥)
    → (numbers : List ℤ) → form.made numbers ≡ Some Nothing → ⊥
asks_by p true first form later e f g =
    let same : first ≡ form = cc in
    subst (λ (x : Form Command). (numbers : List ℤ) → x.made numbers ≡ Some Nothing → ⊥) same f
asks_by p false first form later e f g = g e

pub found_asks : (p : Form Command → Bool) (forms : List (Form Command)) (form : Form Command) → AskFor forms → find p forms ≡ Some form → (numbers : List ℤ) → form.made numbers ≡ Some Nothing → ⊥
found_asks p [] form h e = absurd cc
found_asks p (first ∷ forms) form h e = asks_by p (p first) first form (find p forms) e h.0 (found_asks p forms form h.1)

-- a word is found only where it is spelt so
pub name-from_name_of : (word : List ℕ) (n : Name) → name_of word ≡ Some n → word ≡ (row_of n).name
name-from_name_of word n e = sym ((bytes_eq-Decides (row_of n).name word).0 (find-passes (λ m. bytes_eq (row_of m).name word) names n e))

unnamed : (word : List ℕ) → ((n : Name) → word ≢ (row_of n).name) → (o : Option Name) → name_of word ≡ o → o ≡ None
unnamed word other None e = refl
unnamed word other (Some n) e = absurd (other n (name-from_name_of word n e))

pub name_of-unknown : (word : List ℕ) → ((n : Name) → word ≢ (row_of n).name) → name_of word ≡ None
name_of-unknown word other = unnamed word other (name_of word) refl

pub unknown-from_name_of : (word : List ℕ) → name_of word ≡ None → (n : Name) → word ≢ (row_of n).name
unknown-from_name_of word e n same =
    let found : name_of word ≡ Some n = rw same (name_of-name n) in
    cc
