-- What contracts see of each source and sink.
use Rattle.std.specs.Prelude.{ℕ, List}

-- a source over bytes in memory: those left, the most that a call hands over, and the numbers of the calls that fail
pub record SourceState : Type 0 where
  pub rest : List ℕ
  pub chunk : ℕ
  pub fail : List ℕ
  pub calls : ℕ
  pub faults : ℕ

-- a source of one byte, n times
pub record RepeatState : Type 0 where
  pub byte : ℕ
  pub n : ℕ
  pub calls : ℕ

-- a sink into memory: the bytes taken, how many there is room for in all, the most that a call takes, and the numbers of the calls that fail
pub record SinkState : Type 0 where
  pub taken : List ℕ
  pub room : ℕ
  pub chunk : ℕ
  pub fail : List ℕ
  pub calls : ℕ
  pub faults : ℕ

-- a source over a stream: the reader, of whose bytes no more is told than it tells itself
pub record StreamState (R : Type 0) : Type 0 where
  pub inner : R
  pub calls : ℕ
  pub faults : ℕ

-- a sink over a stream: the writer, of whose bytes no more is told than it tells itself
pub record OutletState (W : Type 0) : Type 0 where
  pub inner : W
  pub faults : ℕ
