-- What going clockwise is like, told by three answers of an order of ways: is d before a, d before b, a before b.
use Rattle.std.proofs.Common.{◌≡◌, Bool, true, false, cond, not, ◌&&◌, ◌||◌, refl, sym}
use Rattle.std.proofs.lemmas.Bool.{false≢true}

-- clockwise from just after d, a is met before b
abbrev pub soon : Bool → Bool → Bool → Bool
soon da db ab = cond da (not db || ab) (not db && ab)

pub apart_by : (da db ab ba : Bool) → (ab ≡ true → ba ≡ true → ⊥) → soon da db ab ≡ true → soon db da ba ≡ true → ⊥
apart_by true true ab ba f h k = f h k
apart_by true false ab ba f h k = false≢true k
apart_by false true ab ba f h k = false≢true h
apart_by false false ab ba f h k = f h k

pub through_by : (da db dc ab bc ac : Bool) → (ab ≡ true → bc ≡ true → ac ≡ true) → soon da db ab ≡ true → soon db dc bc ≡ true → soon da dc ac ≡ true
through_by true true true ab bc ac f h k = f h k
through_by true true false ab bc ac f h k = refl
through_by true false true ab bc ac f h k = absurd (false≢true k)
through_by true false false ab bc ac f h k = refl
through_by false true dc ab bc ac f h k = absurd (false≢true h)
through_by false false true ab bc ac f h k = absurd (false≢true k)
through_by false false false ab bc ac f h k = f h k

-- of d and b one comes before the other
pub turned_by : (da ad db bd ab : Bool) → (da ≡ true → ad ≡ true → ⊥) → (db ≡ false → bd ≡ true) → soon da db ab ≡ true → soon ab ad bd ≡ true
turned_by true true db bd ab f u h = absurd (f refl refl)
turned_by true false db bd true f u h = refl
turned_by true false true bd false f u h = absurd (false≢true h)
turned_by true false false bd false f u h = u refl
turned_by false ad true bd ab f u h = absurd (false≢true h)
turned_by false true false bd true f u h = u refl
turned_by false false false bd true f u h = refl
turned_by false ad false bd false f u h = absurd (false≢true h)

-- of w and x one comes before the other: w is not met between x and y, so y is met later than x clockwise from w
pub further_by : (wx xw wy xy : Bool) → (wx ≡ true → xw ≡ true → ⊥) → (wx ≡ false → xw ≡ true) → soon xw xy wy ≡ false → soon wx wy xy ≡ true
further_by true true wy xy f u h = absurd (f refl refl)
further_by true false true true f u h = refl
further_by true false true false f u h = absurd (false≢true (sym h))
further_by true false false xy f u h = refl
further_by false false wy xy f u h = absurd (false≢true (u refl))
further_by false true true true f u h = absurd (false≢true (sym h))
further_by false true false true f u h = refl
further_by false true wy false f u h = absurd (false≢true (sym h))

pub same_by : (da aa : Bool) → aa ≡ false → soon da da aa ≡ false
same_by true aa h = h
same_by false aa h = h
