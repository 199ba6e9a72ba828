-- The commands, and which of them a line is.
use Rattle.std.specs.Prelude.{ℕ, ℤ, pos, negsuc, ◌&&◌, Bool, false, List, [], ◌∷◌, length, map, take, drop, replicate, find, nat_lt, nat_le, ◌==◌, Option, Some, None, option_map, Result, Ok, Err, codes, bytes_eq, if◌then◌else◌}
use Rattle.std.specs.List.{list_all}
use Rattle.std.specs.Option.{option_zip}
use Rattle.std.specs.Result.{result_ok}
use Rattle.envelope_laws.specs.declared.which.Which.TheVariants.{Lower, Upper}
use Rattle.exact_plane.specs.Point.{Point}
use Rattle.exact_plane.specs.PointOf.{point_of}
use Rattle.exact_plane.specs.Segment.{is_coordinate, are_coordinates}
use Rattle.set_laws.specs.declared.op.Op.TheVariants.{Union, Intersection, Difference, Symmetric}
use Rattle.script_lines.specs.declared.command.TheConstants.{MAX_LINE}
use Rattle.script_lines.specs.declared.error.LineError.{LineError}
use Rattle.script_lines.specs.declared.error.LineError.TheVariants.{Word, Long, Byte}
use Rattle.script_lines.specs.declared.command.Command.{Command}
use Rattle.script_lines.specs.declared.command.Command.TheVariants.{Nothing, Segment, Path, Drop, Cut, Pin, Unpin, Split, Merge, Clear, Locate, Edge, Curve, Count, Show, Overlay, Region, Vertical, Batch, Envelope, Attach, Leave, Mirror, LayerRed, LayerBlue}
use Rattle.script_lines.specs.declared.name.Name.{Name}
use Rattle.script_lines.specs.declared.name.Name.TheVariants as name
use Rattle.script_lines.specs.Words.{words}
use Rattle.script_lines.specs.Form.{Form, Fixed, Numeral, form_map, forms_reading}

-- no word
abbrev pub empty_form : {A : Type 0} → A → Form A
empty_form x = record { places = []; made = λ numbers. Some x }

-- the point of three numbers, where they are in range
abbrev pub point_from : List ℤ → Option Point
point_from (x ∷ y ∷ w ∷ []) = result_ok (point_of x y w)
point_from other = None

-- a point, `X Y W`
abbrev pub point_form : Form Point
point_form = record { places = replicate 3 Numeral; made = point_from }

-- the two points of six numbers, where both are in range
abbrev pub pair_from : List ℤ → Option (Point × Point)
pair_from numbers = option_zip (point_from (take 3 numbers)) (point_from (drop 3 numbers))

-- two points, `X Y W X Y W`
abbrev pub pair_form : Form (Point × Point)
pair_form = record { places = replicate 6 Numeral; made = pair_from }

-- two points and one more of nine numbers, where all three are in range
abbrev pub triple_from : List ℤ → Option ((Point × Point) × Point)
triple_from numbers = option_zip (pair_from (take 6 numbers)) (point_from (drop 6 numbers))

-- two points and one more, `X Y W X Y W X Y W`
abbrev pub triple_form : Form ((Point × Point) × Point)
triple_form = record { places = replicate 9 Numeral; made = triple_from }

-- a number from 1 to the greatest
abbrev pub number_to : ℕ → ℤ → Option ℕ
number_to greatest (pos n) = if nat_lt 0 n && nat_le n greatest then Some n else None
number_to greatest (negsuc n) = None

-- a curve's number
abbrev pub curve_from : List ℤ → Option ℕ
curve_from (c ∷ []) = number_to 4294967295 c
curve_from other = None

-- a curve, by its number
abbrev pub curve_form : Form ℕ
curve_form = record { places = replicate 1 Numeral; made = curve_from }

-- the four coordinates of two ends, where all are in range
abbrev pub segment_from : List ℤ → Option Command
segment_from (x1 ∷ y1 ∷ x2 ∷ y2 ∷ []) = if are_coordinates x1 y1 x2 y2 then Some (Segment x1 y1 x2 y2) else None
segment_from other = None

-- two ends, `x1 y1 x2 y2`
abbrev pub segment_form : Form Command
segment_form = record { places = replicate 4 Numeral; made = segment_from }

-- points, by two numbers each
abbrev pub pairs : List ℤ → List (ℤ × ℤ)
pairs (x ∷ y ∷ numbers) = (x, y) ∷ pairs numbers
pairs other = []

-- the points of a path, where all numbers are in range
abbrev pub path_from : List ℤ → Option Command
path_from numbers = if list_all is_coordinate numbers then Some (Path (pairs numbers)) else None

-- a path of so many numbers
abbrev pub path_form : ℕ → Form Command
path_form count = record { places = replicate count Numeral; made = path_from }

-- two to nine points, `x0 y0 x1 y1 .. xk yk`
abbrev pub path_forms : List (Form Command)
path_forms = map path_form (4 ∷ 6 ∷ 8 ∷ 10 ∷ 12 ∷ 14 ∷ 16 ∷ 18 ∷ [])

-- points, by three numbers each, where all are in range
abbrev pub batch_from : List ℤ → Option (List Point)
batch_from (x ∷ y ∷ w ∷ numbers) = option_map (λ both. both.0 ∷ both.1) (option_zip (point_from (x ∷ y ∷ w ∷ [])) (batch_from numbers))
batch_from other = Some []

-- a batch of them
abbrev pub batch_made : List ℤ → Option Command
batch_made numbers = option_map Batch (batch_from numbers)

-- a batch of so many numbers
abbrev pub batch_form : ℕ → Form Command
batch_form count = record { places = replicate count Numeral; made = batch_made }

-- one to eight points, `X Y W .. X Y W`
abbrev pub batch_forms : List (Form Command)
batch_forms = map batch_form (3 ∷ 6 ∷ 9 ∷ 12 ∷ 15 ∷ 18 ∷ 21 ∷ 24 ∷ [])

-- an observer's number
abbrev pub observer_from : List ℤ → Option ℕ
observer_from (i ∷ []) = number_to 64 i
observer_from other = None

-- an observer, by its number
abbrev pub observer_form : Form ℕ
observer_form = record { places = replicate 1 Numeral; made = observer_from }

-- an observer and a round, where both numbers are in range
abbrev pub observer_at_from : List ℤ → Option (ℕ × Option ℕ)
observer_at_from (i ∷ n ∷ []) = option_zip (number_to 64 i) (option_map Some (number_to 1000000 n))
observer_at_from other = None

-- an observer and a round, `i at n`
abbrev pub observer_at_form : Form (ℕ × Option ℕ)
observer_at_form = record { places = Numeral ∷ Fixed (codes "at") ∷ Numeral ∷ []; made = observer_at_from }

-- an observer now, `i`, or at a round, `i at n`
abbrev pub observer_when_forms : List (Form (ℕ × Option ℕ))
observer_when_forms = form_map (λ i. (i, None)) observer_form ∷ observer_at_form ∷ []

-- a fixed word, for something that needs no number
abbrev pub word_form : {A : Type 0} → List ℕ → A → Form A
word_form text x = record { places = Fixed text ∷ []; made = λ numbers. Some x }

-- a layer, `red` or `blue`
abbrev pub layer_forms : List (Form Command)
layer_forms = word_form (codes "red") LayerRed ∷ word_form (codes "blue") LayerBlue ∷ []

-- how the sets of the layers make one, `union`, `intersection`, `difference` or `symmetric`
abbrev pub region_forms : List (Form Command)
region_forms = word_form (codes "union") (Region Union) ∷ word_form (codes "intersection") (Region Intersection) ∷ word_form (codes "difference") (Region Difference) ∷ word_form (codes "symmetric") (Region Symmetric) ∷ []

-- an envelope, `lower` or `upper`
abbrev pub envelope_forms : List (Form Command)
envelope_forms = word_form (codes "lower") (Envelope Lower) ∷ word_form (codes "upper") (Envelope Upper) ∷ []

-- a row of the table of commands: a name, and the forms of the words after it
pub record Row : Type 0 where
  pub name : List ℕ
  pub forms : List (Form Command)

abbrev pub row : List ℕ → List (Form Command) → Row
row text forms = record { name = text; forms = forms }

-- the table of commands
abbrev pub row_of : Name → Row
row_of name.Segment = row (codes "segment") (segment_form ∷ [])
row_of name.Path = row (codes "path") path_forms
row_of name.Drop = row (codes "drop") (form_map Drop curve_form ∷ [])
row_of name.Cut = row (codes "cut") (form_map (λ points. Cut points.0 points.1) pair_form ∷ [])
row_of name.Pin = row (codes "pin") (form_map Pin point_form ∷ [])
row_of name.Unpin = row (codes "unpin") (form_map Unpin point_form ∷ [])
row_of name.Split = row (codes "split") (form_map (λ points. Split points.0.0 points.0.1 points.1) triple_form ∷ [])
row_of name.Merge = row (codes "merge") (form_map Merge point_form ∷ [])
row_of name.Clear = row (codes "clear") (empty_form Clear ∷ [])
row_of name.Locate = row (codes "locate") (form_map Locate point_form ∷ [])
row_of name.Edge = row (codes "edge") (form_map (λ points. Edge points.0 points.1) pair_form ∷ [])
row_of name.Curve = row (codes "curve") (form_map Curve curve_form ∷ [])
row_of name.Count = row (codes "count") (empty_form Count ∷ [])
row_of name.Show = row (codes "show") (empty_form Show ∷ [])
row_of name.Overlay = row (codes "overlay") (empty_form Overlay ∷ [])
row_of name.Region = row (codes "region") region_forms
row_of name.Vertical = row (codes "vertical") (empty_form Vertical ∷ [])
row_of name.Batch = row (codes "batch") batch_forms
row_of name.Envelope = row (codes "envelope") envelope_forms
row_of name.Attach = row (codes "attach") (map (form_map (λ entry. Attach entry.0 entry.1)) observer_when_forms)
row_of name.Leave = row (codes "leave") (map (form_map (λ entry. Leave entry.0 entry.1)) observer_when_forms)
row_of name.Mirror = row (codes "mirror") (form_map Mirror observer_form ∷ [])
row_of name.Layer = row (codes "layer") layer_forms

abbrev pub names : List Name
names = name.Segment ∷ name.Path ∷ name.Drop ∷ name.Cut ∷ name.Pin ∷ name.Unpin ∷ name.Split ∷ name.Merge ∷ name.Clear ∷ name.Locate ∷ name.Edge ∷ name.Curve ∷ name.Count ∷ name.Show ∷ name.Overlay ∷ name.Region ∷ name.Vertical ∷ name.Batch ∷ name.Envelope ∷ name.Attach ∷ name.Leave ∷ name.Mirror ∷ name.Layer ∷ []

-- the name that a word spells
abbrev pub name_of : List ℕ → Option Name
name_of word = find (λ n. bytes_eq (row_of n).name word) names

-- the command of a name and the words after it, or Word where there is no such name
abbrev pub name_reading : Option Name → List (List ℕ) → Result Command LineError
name_reading None words = Err Word
name_reading (Some name) words = forms_reading (row_of name).forms words

-- a comment's first word begins with `#`
abbrev pub is_comment : List ℕ → Bool
is_comment [] = false
is_comment (b ∷ more) = b == 35

-- the command of the words of a line: nothing, where there is none or they are a comment
abbrev pub words_reading : List (List ℕ) → Result Command LineError
words_reading [] = Ok Nothing
words_reading (word ∷ words) = if is_comment word then Ok Nothing else name_reading (name_of word) words

abbrev pub is_printable : ℕ → Bool
is_printable b = nat_le 32 b && nat_le b 126

-- the command of a line: Long where it has too many bytes, else Byte where one of them doesn't print, else
-- what its words say
abbrev pub command_of : List ℕ → Result Command LineError
command_of line = if nat_lt MAX_LINE (length line) then Err Long else (if list_all is_printable line then words_reading (words line) else Err Byte)
