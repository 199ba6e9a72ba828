-- How chains by edge and by curve, pieces and a number are a history (this project).
use Rattle.std.specs.Prelude.{◌≡◌, ◌^◌, ◌≤◌, ◌<◌, ℕ, List, [], ◌∷◌, map, min, Option, Some, None, IfSome, length, ⊤}
use Rattle.std.specs.List.{AllByRecursion}
use Rattle.std.specs.Ordering.{nat_cmp}
use Rattle.plane_graphs.specs.Ascending.{ascending}
use Rattle.slab_laws.specs.Pieces.{piece_of}
use Rattle.slab_laws.specs.Tables.{names}
use Rattle.linked_chains.specs.Chains.{Chained, HasKey, entry_at, chain}
use Rattle.curve_pieces.specs.PieceRows.{Rowed, items}
use Rattle.linked_chains.specs.declared.node.Entry.{Entry}
use Rattle.curve_history.specs.Past.{Past}
use Rattle.edit_steps.specs.EditLaws.{curve_of}

-- what a node says: the key of its chain, its item and its twin
abbrev pub entry : ℕ → ℕ → ℕ → Entry
entry key item twin = record { key = key; item = item; twin = twin }

-- what a node says beside its key
abbrev pub item_or : Option Entry → ℕ
item_or None = 0
item_or (Some e) = e.item

unfoldable pub item_in : Chained → ℕ → ℕ
item_in c n = item_or (entry_at c n)

-- a node says this key and this item
pub record Says (c : Chained) (key item : ℕ) : Type 0 where
  pub node : ℕ
  pub twin : ℕ
  pub is : entry_at c node ≡ Some (entry key item twin)

-- a node of an edge, which says a side of a curve, and a node of that curve, which says the edge (this project)
pub record IsBeside (of_edge of_curve : Entry) : Type 0 where
  pub edge : of_curve.item ≡ of_edge.key
  pub curve : of_curve.key ≡ curve_of of_edge.item

-- each node's twin is a node beside it, which names it back
pub record AreTwins (Beside : Entry → Entry → Type 0) (one other : Chained) : Type 0 where
  pub twin : (n : ℕ) (e : Entry) → entry_at one n ≡ Some e → (f : Entry) × (entry_at other e.twin ≡ Some f) × (f.twin ≡ n) × Beside e f

-- the nodes of edges and those of curves are twins, and each pair of an edge and a side of a curve is said once
pub record ArePairs (edges curves : Chained) : Type 0 where
  pub forth : AreTwins IsBeside edges curves
  pub back : AreTwins (λ f e. IsBeside e f) curves edges
  pub once : (m n key item s t : ℕ) → entry_at edges m ≡ Some (entry key item s) → entry_at edges n ≡ Some (entry key item t) → m ≡ n

-- what the nodes of a key say, in the order of its chain
abbrev pub items_along : Chained → ℕ → List ℕ
items_along c k = map (item_in c) (chain c k)

-- each number is greater than all that follow it
abbrev pub IsDescending : List ℕ → Type 0
IsDescending [] = ⊤
IsDescending (x ∷ xs) = AllByRecursion (λ y. y < x) xs × IsDescending xs

-- the sides of curves along each edge stand in its chain from the greatest number to the least (this project)
abbrev pub AreOrdered : Chained → Type 0
AreOrdered edges = (k : ℕ) → IsDescending (items_along edges k)

-- each key of the edges has a node
pub record AreFilled (edges : Chained) : Type 0 where
  pub key : (k : ℕ) → HasKey edges k → (i : ℕ) × Says edges k i

-- the number that the next curve gets, one past the last for none
abbrev pub number_of : Option ℕ → ℕ
number_of None = 2 ^ 32
number_of (Some n) = n

-- the numbers of the named curves, ascending
abbrev pub named_in : Chained → List ℕ
named_in curves = ascending nat_cmp (names curves.heads)

-- the pair that a node says
abbrev pub pair_or : Option Entry → ℕ × ℕ
pair_or None = (0, 0)
pair_or (Some e) = (e.key, e.item)

-- the pairs that the nodes say
abbrev pub pairs_in : Chained → List (ℕ × ℕ)
pairs_in c = map (λ n. pair_or (entry_at c n)) (names c.nodes)

-- how many pairs more fit with no memory
abbrev pub pair_room : Chained → Chained → ℕ
pair_room edges curves = min (min edges.spare_nodes curves.spare_nodes) edges.spare_keys

abbrev pub past : Chained → Chained → Rowed → Option ℕ → Past
past edges curves pieces next = record {
  pairs = pairs_in edges;
  names = named_in curves;
  pieces = map piece_of (items pieces);
  next = number_of next;
  spare_names = curves.spare_keys;
  spare_pieces = pieces.spare;
  spare_pairs = pair_room edges curves;
  capacity_by_edge = edges.capacity_of_nodes;
  capacity_by_curve = curves.capacity_of_nodes;
  capacity_of_pieces = pieces.capacity;
  rows = pieces.rows;
  indexed = pieces.indexed;
}

-- the pairs are twins, said once; the edges with a key are those with curves; their chains are in order; the numbers of curves are below the next one; and there are fewer than 2^32 pieces (this project)
pub record IsSoundHistory (edges curves : Chained) (pieces : Rowed) (next : Option ℕ) : Type 0 where
  pub pairs : ArePairs edges curves
  pub filled : AreFilled edges
  pub ordered : AreOrdered edges
  pub numbers : (k : ℕ) → HasKey curves k → (1 ≤ k) × (k < number_of next)
  pub last : IfSome next (λ n. (1 ≤ n) × (n < 2 ^ 32))
  pub few : length pieces.rows < 2 ^ 32
