-- A kind of cycles by what it bounds.
use Rattle.std.proofs.Common.{◌≡◌, true, false, refl}
use Rattle.std.proofs.lemmas.Bool.{false≢true, true≢false}
use Rattle.slab_laws.specs.declared.names.CycleKind.{CycleKind}
use Rattle.slab_laws.specs.declared.names.CycleKind.TheVariants.{Outer, Inner}
use Rattle.slab_laws.specs.Kinds.{is_outer}

pub outer_kind : (k : CycleKind) → is_outer k ≡ true → k ≡ Outer
outer_kind Outer e = refl
outer_kind Inner e = absurd (false≢true e)

pub inner_kind : (k : CycleKind) → is_outer k ≡ false → k ≡ Inner
inner_kind Outer e = absurd (true≢false e)
inner_kind Inner e = refl
