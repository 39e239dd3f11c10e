-- What is seen of a source and of a sink over memory, and of an adapter.
use Rattle.std.specs.Prelude.{ℕ, List}

-- a source over memory: the bytes not yet read, the most that a read gives, the numbers of the
-- reads that fail, the number of the next read, and how often it has failed
pub record Feed : Type 0 where
  pub left : List ℕ
  pub most : ℕ
  pub fails : List ℕ
  pub number : ℕ
  pub faults : ℕ

-- a sink over memory: the bytes written so far, how many more it has room for, the most that a
-- write takes, the numbers of the writes that fail, the number of the next write, and how often it
-- has failed
pub record Store : Type 0 where
  pub held : List ℕ
  pub room : ℕ
  pub most : ℕ
  pub fails : List ℕ
  pub number : ℕ
  pub faults : ℕ

-- an adapter: the reader or writer of std, and how often it has failed
pub record Adapter (R : Type 0) : Type 0 where
  pub inner : R
  pub faults : ℕ
