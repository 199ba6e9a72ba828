-- The ring of darts out of a vertex, by name, and what edits change in it.
use Rattle.std.specs.Prelude.{◌≡◌, ◌≢◌, ◌⊎◌, ◌↔◌, ℕ, Bool, true, List}
use Rattle.std.specs.List.{Contains}
use Rattle.rotation_order.specs.RingOrder.{sooner_by}

-- darts by name: which there are, and of each the name of its source, its way, and the dart out of the same source that is said to follow it (this project)
pub record Turns (W : Type 0) : Type 0 where
  pub has : ℕ → Bool
  pub source : ℕ → ℕ
  pub way : ℕ → W
  pub after : ℕ → ℕ

-- c is a dart out of v (CGAL manual, source)
abbrev pub Out : {W : Type 0} → Turns W → ℕ → ℕ → Type 0
Out g v c = (g.has c ≡ true) × (g.source c ≡ v)

-- ds are the darts out of v, in any order (this project)
abbrev pub IsListOut : {W : Type 0} → Turns W → ℕ → List ℕ → Type 0
IsListOut g v ds = (c : ℕ) → Contains ds c ↔ Out g v c

-- the darts out of v have different ways, and P holds of them (this project)
pub record IsApart {W : Type 0} (P : W → Type 0) (g : Turns W) (v : ℕ) : Type 0 where
  pub inside : (c : ℕ) → Out g v c → P (g.way c)
  pub differ : (c d : ℕ) → Out g v c → Out g v d → c ≢ d → g.way c ≢ g.way d

-- e is the first dart out of v clockwise after d; it is d itself where d is alone (CGAL manual, circulator around a vertex)
pub record IsAfter {W : Type 0} (sooner : W → W → W → Bool) (g : Turns W) (v d e : ℕ) : Type 0 where
  pub out : Out g v e
  pub first : (c : ℕ) → Out g v c → c ≢ e → sooner (g.way d) (g.way e) (g.way c) ≡ true

-- the darts out of v have different ways, of which P holds, and each is followed by the first clockwise after it (Fogel, Halperin and Wein: halfedges around a vertex)
pub record IsRing {W : Type 0} (lt : W → W → Bool) (P : W → Type 0) (g : Turns W) (v : ℕ) : Type 0 where
  pub inside : (c : ℕ) → Out g v c → P (g.way c)
  pub follows : (d : ℕ) → Out g v d → IsAfter (sooner_by lt) g v d (g.after d)
  pub differ : (c d : ℕ) → Out g v c → Out g v d → c ≢ d → g.way c ≢ g.way d

-- e is the next dart out of v by the order, or the first of all where d is the last of all (this project)
pub data IsNextOrFirst {W : Type 0} (lt : W → W → Bool) (g : Turns W) (v d e : ℕ) : Type 0 where
  is_next : lt (g.way d) (g.way e) ≡ true → ((c : ℕ) → Out g v c → lt (g.way d) (g.way c) ≡ true → lt (g.way c) (g.way e) ≡ true → ⊥) → IsNextOrFirst lt g v d e
  is_first : ((c : ℕ) → Out g v c → lt (g.way d) (g.way c) ≡ true → ⊥) → ((c : ℕ) → Out g v c → lt (g.way c) (g.way e) ≡ true → ⊥) → IsNextOrFirst lt g v d e

-- ---- what an edit changes in the ring of one vertex: g before, h after; Q is what holds of the ways afterwards

-- the same darts go out of v the same ways, and follow each other as before (this project)
pub record IsUnchangedRing {W : Type 0} (Q : W → Type 0) (g h : Turns W) (v : ℕ) : Type 0 where
  pub from : (c : ℕ) → Out h v c → Out g v c
  pub into : (c : ℕ) → Out g v c → Out h v c
  pub inside : (c : ℕ) → Out h v c → Q (h.way c)
  pub way : (c : ℕ) → Out g v c → h.way c ≡ g.way c
  pub after : (c : ℕ) → Out g v c → h.after c ≡ g.after c

-- x is now the only dart out of v, and follows itself (this project)
pub record IsLone {W : Type 0} (Q : W → Type 0) (h : Turns W) (v x : ℕ) : Type 0 where
  pub from : (c : ℕ) → Out h v c → c ≡ x
  pub x_out : Out h v x
  pub inside : Q (h.way x)
  pub after_x : h.after x ≡ x

-- x and y are now the only darts out of v, go different ways, and follow each other (this project)
pub record IsTwo {W : Type 0} (Q : W → Type 0) (h : Turns W) (v x y : ℕ) : Type 0 where
  pub from : (c : ℕ) → Out h v c → (c ≡ x) ⊎ (c ≡ y)
  pub x_out : Out h v x
  pub y_out : Out h v y
  pub x_inside : Q (h.way x)
  pub y_inside : Q (h.way y)
  pub apart : h.way x ≢ h.way y
  pub after_x : h.after x ≡ y
  pub after_y : h.after y ≡ x

-- x has come directly after a, in its place by its way (this project)
pub record IsInsert {W : Type 0} (lt : W → W → Bool) (Q : W → Type 0) (g h : Turns W) (v x a : ℕ) : Type 0 where
  pub from : (c : ℕ) → Out h v c → (c ≡ x) ⊎ Out g v c
  pub into : (c : ℕ) → Out g v c → Out h v c
  pub x_out : Out h v x
  pub a_out : Out g v a
  pub inside : (c : ℕ) → Out h v c → Q (h.way c)
  pub way : (c : ℕ) → Out g v c → h.way c ≡ g.way c
  pub after_x : h.after x ≡ g.after a
  pub after_a : h.after a ≡ x
  pub after : (c : ℕ) → Out g v c → c ≢ a → h.after c ≡ g.after c
  pub place : sooner_by lt (g.way a) (h.way x) (g.way (g.after a)) ≡ true

-- x, which stood directly after a, has gone (this project)
pub record IsRemove {W : Type 0} (Q : W → Type 0) (g h : Turns W) (v x a : ℕ) : Type 0 where
  pub from : (c : ℕ) → Out h v c → Out g v c × (c ≢ x)
  pub into : (c : ℕ) → Out g v c → c ≢ x → Out h v c
  pub x_out : Out g v x
  pub a_out : Out g v a
  pub other : a ≢ x
  pub before : g.after a ≡ x
  pub inside : (c : ℕ) → Out h v c → Q (h.way c)
  pub way : (c : ℕ) → Out g v c → c ≢ x → h.way c ≡ g.way c
  pub after_a : h.after a ≡ g.after x
  pub after : (c : ℕ) → Out g v c → c ≢ x → c ≢ a → h.after c ≡ g.after c

-- y stands where x stood, as the order tells; it may be x itself, gone another way (this project)
pub record IsRename {W : Type 0} (lt : W → W → Bool) (Q : W → Type 0) (g h : Turns W) (v x y : ℕ) : Type 0 where
  pub from : (c : ℕ) → Out h v c → (c ≡ y) ⊎ (Out g v c × (c ≢ x))
  pub into : (c : ℕ) → Out g v c → c ≢ x → Out h v c
  pub x_out : Out g v x
  pub y_out : Out h v y
  pub inside : (c : ℕ) → Out h v c → Q (h.way c)
  pub way : (c : ℕ) → Out g v c → c ≢ x → h.way c ≡ g.way c
  pub same_left : (c : ℕ) → Out g v c → c ≢ x → lt (h.way y) (g.way c) ≡ lt (g.way x) (g.way c)
  pub same_right : (c : ℕ) → Out g v c → c ≢ x → lt (g.way c) (h.way y) ≡ lt (g.way c) (g.way x)
  pub after_y : g.after x ≢ x → h.after y ≡ g.after x
  pub alone : g.after x ≡ x → h.after y ≡ y
  pub after_a : (c : ℕ) → Out g v c → c ≢ x → g.after c ≡ x → h.after c ≡ y
  pub after : (c : ℕ) → Out g v c → c ≢ x → g.after c ≢ x → h.after c ≡ g.after c
