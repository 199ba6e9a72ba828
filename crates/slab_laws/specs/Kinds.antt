-- The two kinds of cycles.
use Rattle.std.specs.Prelude.{Bool, true, false}
use Rattle.slab_laws.specs.declared.names.CycleKind.{CycleKind}
use Rattle.slab_laws.specs.declared.names.CycleKind.TheVariants.{Outer, Inner}

-- the kind of a cycle that bounds its face from outside, or doesn't (CGAL manual, outer and inner CCB)
abbrev pub kind_by : Bool → CycleKind
kind_by true = Outer
kind_by false = Inner

-- the kind bounds a face from outside
abbrev pub is_outer : CycleKind → Bool
is_outer Outer = true
is_outer Inner = false
