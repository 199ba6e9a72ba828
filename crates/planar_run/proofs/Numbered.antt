-- The observers and the rounds of a line that was read are counted from 1.
use Rattle.std.proofs.Common.{◌≡◌, ◌≤◌, ℕ, Bool, true, false, cond, List, [], ◌∷◌, length, map, Option, Some, None, Result, Ok, Err, refl, sym, subst, arith}
use Rattle.std.specs.Prelude.{◌≢◌, ◌&&◌, ℤ, pos, negsuc, filter_map, find, nat_lt, nat_le, ok_or, option_map, if◌then◌else◌, IfOk, IfSome}
use Rattle.std.specs.List.{list_all, list_any}
use Rattle.std.specs.Option.{option_zip}
use Rattle.std.proofs.lemmas.Bool.{ltb-true}
use Rattle.exact_plane.specs.Segment.{are_coordinates, is_coordinate}
use Rattle.script_lines.specs.declared.command.TheConstants.{MAX_LINE}
use Rattle.script_lines.specs.declared.error.LineError.{LineError}
use Rattle.script_lines.specs.declared.error.LineError.TheVariants.{Byte, Count, Long, Number, Range}
use Rattle.script_lines.specs.declared.command.Command.{Command}
use Rattle.script_lines.specs.declared.command.Command.TheVariants as command
use Rattle.script_lines.specs.declared.name.Name.{Name}
use Rattle.script_lines.specs.declared.name.Name.TheVariants as name
use Rattle.script_lines.specs.Number.{is_number, number_of}
use Rattle.script_lines.specs.Form.{Form, form_reading, has_count, has_fixed, number_words}
use Rattle.script_lines.specs.Words.{words as words_of}
use Rattle.script_lines.specs.Command.{batch_form, batch_from, command_of, curve_from, is_comment, is_printable, name_of, name_reading, number_to, observer_at_from, observer_from, pair_from, pairs, path_form, path_from, point_from, row_of, segment_from, triple_from, words_reading}
use Rattle.planar_run.specs.Answer.{IsNumbered}

-- ---- numbers
least_by : (b c : Bool) (n : ℕ) → nat_lt 0 n ≡ b → IfSome (if b && c then Some n else None) (λ n. 1 ≤ n)
least_by true true n e = omega (arith, ltb-true 0 n e)
least_by true false n e = tt
least_by false c n e = tt

least : (greatest : ℕ) (z : ℤ) → IfSome (number_to greatest z) (λ n. 1 ≤ n)
least greatest (pos n) = least_by (nat_lt 0 n) (nat_le n greatest) n refl
least greatest (negsuc n) = tt

observer_least : (ns : List ℤ) → IfSome (observer_from ns) (λ i. 1 ≤ i)
observer_least [] = tt
observer_least (z ∷ []) = least 64 z
observer_least (z ∷ y ∷ ns) = tt

-- an observer and a round, if one is named
abbrev IsEntry : ℕ × Option ℕ → Type 0
IsEntry entry = (1 ≤ entry.0) × (entry.1 ≢ Some 0)

entry_now : (o : Option ℕ) → IfSome o (λ i. 1 ≤ i) → IfSome (option_map (λ i. (i, None)) o) IsEntry
entry_now None h = tt
entry_now (Some i) h = (h, λ e. cc)

entry_at : (o p : Option ℕ) → IfSome o (λ i. 1 ≤ i) → IfSome p (λ n. 1 ≤ n) → IfSome (option_zip o (option_map Some p)) IsEntry
entry_at None p h k = tt
entry_at (Some i) None h k = tt
entry_at (Some i) (Some n) h k = (h, λ e. let zero : n ≡ 0 = cc in omega arith)

at_least : (ns : List ℤ) → IfSome (observer_at_from ns) IsEntry
at_least [] = tt
at_least (i ∷ []) = tt
at_least (i ∷ n ∷ []) = entry_at (number_to 64 i) (number_to 1000000 n) (least 64 i) (least 1000000 n)
at_least (i ∷ n ∷ z ∷ ns) = tt

-- ---- forms
always : {A : Type 0} (f : A → Command) (o : Option A) → ((x : A) → IsNumbered (f x)) → IfSome (option_map f o) IsNumbered
always f None h = tt
always f (Some x) h = h x

mapped : {A : Type 0} (f : A → Command) (P : A → Type 0) (o : Option A) → IfSome o P → ((x : A) → P x → IsNumbered (f x)) → IfSome (option_map f o) IsNumbered
mapped f P None k h = tt
mapped f P (Some x) k h = h x k

segment_by : (b : Bool) (c : Command) → IsNumbered c → IfSome (if b then Some c else None) IsNumbered
segment_by true c h = h
segment_by false c h = tt

segment_numbered : (ns : List ℤ) → IfSome (segment_from ns) IsNumbered
segment_numbered [] = tt
segment_numbered (a ∷ []) = tt
segment_numbered (a ∷ b ∷ []) = tt
segment_numbered (a ∷ b ∷ c ∷ []) = tt
segment_numbered (a ∷ b ∷ c ∷ d ∷ []) = segment_by (are_coordinates a b c d) (command.Segment a b c d) tt
segment_numbered (a ∷ b ∷ c ∷ d ∷ e ∷ ns) = tt

path_numbered : (ns : List ℤ) → IfSome (path_from ns) IsNumbered
path_numbered ns = segment_by (list_all is_coordinate ns) (command.Path (pairs ns)) tt

batch_numbered : (ns : List ℤ) → IfSome (option_map command.Batch (batch_from ns)) IsNumbered
batch_numbered ns = always command.Batch (batch_from ns) (λ points. tt)

abbrev AreNumbered : List (Form Command) → Type 0
AreNumbered [] = Unit {0}
AreNumbered (form ∷ forms) = ((ns : List ℤ) → IfSome (form.made ns) IsNumbered) × AreNumbered forms

paths_numbered : (counts : List ℕ) → AreNumbered (map path_form counts)
paths_numbered [] = tt
paths_numbered (count ∷ counts) = (path_numbered, paths_numbered counts)

batches_numbered : (counts : List ℕ) → AreNumbered (map batch_form counts)
batches_numbered [] = tt
batches_numbered (count ∷ counts) = (batch_numbered, batches_numbered counts)

forms_numbered : (n : Name) → AreNumbered (row_of n).forms
forms_numbered name.Segment = (segment_numbered, tt)
forms_numbered name.Path = paths_numbered (4 ∷ 6 ∷ 8 ∷ 10 ∷ 12 ∷ 14 ∷ 16 ∷ 18 ∷ [])
forms_numbered name.Drop = (λ ns. always command.Drop (curve_from ns) (λ c. tt), tt)
forms_numbered name.Cut = (λ ns. always (λ points. command.Cut points.0 points.1) (pair_from ns) (λ points. tt), tt)
forms_numbered name.Pin = (λ ns. always command.Pin (point_from ns) (λ p. tt), tt)
forms_numbered name.Unpin = (λ ns. always command.Unpin (point_from ns) (λ p. tt), tt)
forms_numbered name.Split = (λ ns. always (λ points. command.Split points.0.0 points.0.1 points.1) (triple_from ns) (λ points. tt), tt)
forms_numbered name.Merge = (λ ns. always command.Merge (point_from ns) (λ p. tt), tt)
forms_numbered name.Clear = (λ ns. tt, tt)
forms_numbered name.Locate = (λ ns. always command.Locate (point_from ns) (λ p. tt), tt)
forms_numbered name.Edge = (λ ns. always (λ points. command.Edge points.0 points.1) (pair_from ns) (λ points. tt), tt)
forms_numbered name.Curve = (λ ns. always command.Curve (curve_from ns) (λ c. tt), tt)
forms_numbered name.Count = (λ ns. tt, tt)
forms_numbered name.Show = (λ ns. tt, tt)
forms_numbered name.Overlay = (λ ns. tt, tt)
forms_numbered name.Region = (λ ns. tt, (λ ns. tt, (λ ns. tt, (λ ns. tt, tt))))
forms_numbered name.Vertical = (λ ns. tt, tt)
forms_numbered name.Batch = batches_numbered (3 ∷ 6 ∷ 9 ∷ 12 ∷ 15 ∷ 18 ∷ 21 ∷ 24 ∷ [])
forms_numbered name.Envelope = (λ ns. tt, (λ ns. tt, tt))
forms_numbered name.Attach = (
  λ ns. mapped (λ entry. command.Attach entry.0 entry.1) IsEntry (option_map (λ i. (i, None)) (observer_from ns)) (entry_now (observer_from ns) (observer_least ns)) (λ entry h. h),
  (λ ns. mapped (λ entry. command.Attach entry.0 entry.1) IsEntry (observer_at_from ns) (at_least ns) (λ entry h. h), tt),
)
forms_numbered name.Leave = (
  λ ns. mapped (λ entry. command.Leave entry.0 entry.1) IsEntry (option_map (λ i. (i, None)) (observer_from ns)) (entry_now (observer_from ns) (observer_least ns)) (λ entry h. h),
  (λ ns. mapped (λ entry. command.Leave entry.0 entry.1) IsEntry (observer_at_from ns) (at_least ns) (λ entry h. h), tt),
)
forms_numbered name.Mirror = (λ ns. mapped command.Mirror (λ i. 1 ≤ i) (observer_from ns) (observer_least ns) (λ i h. h), tt)
forms_numbered name.Layer = (λ ns. tt, (λ ns. tt, tt))

-- ---- lines
chosen : (b : Bool) (x y : Result Command LineError) → IfOk x IsNumbered → IfOk y IsNumbered → IfOk (if b then x else y) IsNumbered
chosen true x y h k = h
chosen false x y h k = k

in_range : (o : Option Command) → IfSome o IsNumbered → IfOk (ok_or o Range) IsNumbered
in_range None h = tt
in_range (Some c) h = h

found_next : (b : Bool) (form : Form Command) (later : Option (Form Command)) (words : List (List ℕ)) → ((ns : List ℤ) → IfSome (form.made ns) IsNumbered) → IfOk (form_reading later words) IsNumbered → IfOk (form_reading (cond b (Some form) later) words) IsNumbered
found_next true form later words h k =
    let those = number_words form.places words in
    chosen (list_all is_number those) (ok_or (form.made (filter_map number_of those)) Range) (Err Number) (in_range (form.made (filter_map number_of those)) (h (filter_map number_of those))) tt
found_next false form later words h k = k

found_numbered : (test : Form Command → Bool) (forms : List (Form Command)) (words : List (List ℕ)) → AreNumbered forms → IfOk (form_reading (find test forms) words) IsNumbered
found_numbered test [] words h = tt
found_numbered test (form ∷ forms) words h = found_next (test form) form (find test forms) words h.0 (found_numbered test forms words h.1)

name_numbered : (o : Option Name) (words : List (List ℕ)) → IfOk (name_reading o words) IsNumbered
name_numbered None words = tt
name_numbered (Some n) words =
    let forms = (row_of n).forms in
    chosen (list_any (has_count words) forms) (form_reading (find (has_fixed words) forms) words) (Err Count) (found_numbered (has_fixed words) forms words (forms_numbered n)) tt

words_numbered : (words : List (List ℕ)) → IfOk (words_reading words) IsNumbered
words_numbered [] = tt
words_numbered (word ∷ words) = chosen (is_comment word) (Ok command.Nothing) (name_reading (name_of word) words) tt (name_numbered (name_of word) words)

line_numbered : (line : List ℕ) → IfOk (command_of line) IsNumbered
line_numbered line =
    chosen (nat_lt MAX_LINE (length line)) (Err Long) (if list_all is_printable line then words_reading (words_of line) else Err Byte) tt
    (chosen (list_all is_printable line) (words_reading (words_of line)) (Err Byte) (words_numbered (words_of line)) tt)

pub numbered : (line : List ℕ) (c : Command) → Ok c ≡ command_of line → IsNumbered c
numbered line c e = subst (λ r. IfOk r IsNumbered) (sym e) (line_numbered line)
