-- The number by which an order is drawn.
use Rattle.std.specs.Prelude.{ℕ, ◌++◌, List, fold}
use Rattle.std.specs.Hash.{HashWrites, u64}
use Rattle.std.specs.Hash.DefaultHasher as sip
use Rattle.std.specs.declared.hash.DefaultHasher.{DefaultHasher}
use Rattle.exact_plane.specs.PointOrderLaws.{hash_input}
use Rattle.slab_laws.specs.View.{View, point_in, source_in, target_in}
use Rattle.locate_trapezoid.specs.declared.node.Test.{Test}
use Rattle.locate_trapezoid.specs.declared.node.Test.TheVariants.{Vertex, Edge}

-- what a vertex gives to the hash: its point; or an edge: its lower and its upper end (this project)
abbrev pub place_input : View → Test → HashWrites
place_input v (Vertex w) = hash_input (point_in v w)
place_input v (Edge d) = hash_input (point_in v (source_in v d)) ++ hash_input (point_in v (target_in v d))

-- the hash after one more of them (this project)
abbrev pub hashed : View → DefaultHasher → Test → DefaultHasher
hashed v s t = fold sip.write s (place_input v t)

-- the hash of the number before and of all of them (Aumasson and Bernstein, SipHash; here without a secret key)
abbrev pub seed_in : View → List Test → ℕ → ℕ
seed_in v ts last = sip.finish (fold (hashed v) (fold sip.write sip.initial (u64 last)) ts)
