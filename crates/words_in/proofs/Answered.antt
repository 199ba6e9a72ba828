-- What is answered to words, by what `clap` finds in them.
use Rattle.std.proofs.Common.{◌≡◌, ◌==◌, false, List, [], ◌∷◌, length, drop, map, Option, Some, None, Result, Err, string_bytes, refl, sym, ◌∙◌, subst}
use Rattle.std.specs.Prelude.{String, bytes_eq, codes, IfOk}
use Rattle.std.specs.List.{list_any}
use Rattle.std.specs.Option.{ok_or}
use Rattle.clap.specs.Faults.{fault_of}
use Rattle.clap.specs.Simple.{matches_of}
use Rattle.clap.specs.Walk.{Text, first_of}
use Rattle.clap.proofs.WalkLemmas.{list_any-map}
use Rattle.words_in.specs.declared.options.Options.{Options}
use Rattle.words_in.specs.declared.options.WordsError.{WordsError}
use Rattle.words_in.specs.declared.options.WordsError.TheVariants.{Usage}
use Rattle.words_in.specs.Values.{options_read}
use Rattle.words_in.specs.Grammar.{AreOutside, HasOptions}
use Rattle.words_in.specs.Command.{planar_app}
use Rattle.words_in.proofs.Turns.{dashes}
use Rattle.words_in.proofs.Readings.{HasNoDashes}
use Rattle.words_in.proofs.Grammar.{IsTaken, given_if_taken, options_found, taken_if_given}

-- the words as texts have `--` where the words have it
pub dashes_in : {Z : Type 0} (words : List (String Z))
    → list_any (λ word. bytes_eq (string_bytes word) dashes) (drop 1 words) ≡ list_any (λ word. bytes_eq word dashes) (drop 1 (map string_bytes words))
dashes_in [] = refl
dashes_in (word ∷ rest) = list_any-map (λ text. bytes_eq text dashes) string_bytes rest

taken_of : (words : List Text) (options : Options) → (words ≡ [] → ⊥) → IsTaken words options → HasOptions words options
taken_of [] options ne t = absurd (ne refl)
taken_of (first ∷ rest) options ne t = given_if_taken first rest options t

abbrev found_in : List Text → Option Options
found_in words = options_found (matches_of planar_app words)

-- options that are read of what is found first of each name
pub read_of_found : (words : List Text) (locate make seed : Option Text) (o : Option Options) → o ≡ options_read locate make seed
    → locate ≡ first_of (codes "locate") (matches_of planar_app words) → make ≡ first_of (codes "make") (matches_of planar_app words)
    → seed ≡ first_of (codes "seed") (matches_of planar_app words) → o ≡ found_in words
read_of_found words locate make seed o r e f g = r ∙ rw (e, f, g) refl

-- what is answered, by whether options are found
pub options_given_if_ok : (words : List Text) (o : Option Options) (r : Result Options WordsError) → r ≡ ok_or o Usage → o ≡ found_in words
    → (words ≡ [] → ⊥) → HasNoDashes (drop 1 words) → fault_of planar_app words ≡ [] → IfOk r (λ options. HasOptions words options)
options_given_if_ok words None r e f some free faultless = subst (λ (q : Result Options WordsError). IfOk q (λ options. HasOptions words options)) (sym e) tt
options_given_if_ok words (Some options) r e f some free faultless =
    subst (λ (q : Result Options WordsError). IfOk q (λ options. HasOptions words options)) (sym e)
    (taken_of words options some (record { no_dashes = free; faultless = faultless; read = sym f }))

pub alone_if_ok : (words : List Text) (o : Option Options) (r : Result Options WordsError) → r ≡ ok_or o Usage → o ≡ found_in words
    → IfOk r (λ options. (other : Options) → HasOptions words other → other ≡ options)
alone_if_ok words None r e f = subst (λ (q : Result Options WordsError). IfOk q (λ options. (other : Options) → HasOptions words other → other ≡ options)) (sym e) tt
alone_if_ok words (Some options) r e f =
    subst (λ (q : Result Options WordsError). IfOk q (λ options. (other : Options) → HasOptions words other → other ≡ options)) (sym e)
    (λ other g. let t = taken_if_given words other g in let same : Some options ≡ Some other = f ∙ t.read in cc)

pub outside_if_usage : (words : List Text) (o : Option Options) (r : Result Options WordsError) → r ≡ ok_or o Usage → o ≡ found_in words
    → r ≡ Err Usage → AreOutside words
outside_if_usage words None r e f u options g = let t = taken_if_given words options g in let bad = f ∙ t.read in cc
outside_if_usage words (Some found) r e f u options g = let bad = sym e ∙ u in cc

pub not_empty : {Z : Type 0} (words : List (String Z)) → (length words == 0) ≡ false → map string_bytes words ≡ [] → ⊥
not_empty [] h e = cc
not_empty (word ∷ rest) h e = cc
