-- A prefix of a steady reader's known bytes can be taken, if the scratch is as long.
use Rattle.std.proofs.Common.{◌≡◌, ◌≤◌, ◌+◌, ℕ, List, length, Option, Some, None, sym, ap, subst, arith, length-append}
use Rattle.std.specs.Io.KnownBytes.{Consumes}
use Rattle.postcard_de_flavors.specs.IOReader.{CanRead, reader_of, scratch_of, left_of}
use Rattle.postcard_de_flavors.specs.Reader.{AtLeast}
use Rattle.postcard_de_flavors.specs.Source.{Begins, CanTake, KeepsRear}
use Rattle.postcard_de_flavors.specs.declared.io.io.IOReader.{IOReader}

-- Bytes that begin with a prefix are no fewer than those of the prefix.
begins_at_least : (known : Option (List ℕ)) (front : List ℕ) → Begins known front → AtLeast known (length front)
begins_at_least None front b = b
begins_at_least (Some bytes) front b = omega (arith, ap length b.1, length-append front b.0)

module _ {T : Type 0} (remaining : T → Option (List ℕ)) (steady : T → Type 0) where
  -- A prefix of a steady reader's known bytes can be taken, if the scratch is as long.
  pub can_take : (s : IOReader T) (reader : T) (scratch front : List ℕ) → reader_of s ≡ reader → scratch_of s ≡ scratch → steady reader → Begins (remaining reader) front → length front ≤ length scratch
      → CanTake (left_of remaining) (CanRead remaining steady) s front
  can_take s reader scratch front is_reader is_scratch is_steady begins room =
      let begun = subst (λ (r : T). Begins (remaining r) front) (sym is_reader) begins in
      record {
        begins = begun;
        enough = (subst steady (sym is_reader) is_steady, begins_at_least (remaining (reader_of s)) front begun, subst (λ (l : List ℕ). length front ≤ length l) (sym is_scratch) room);
      }

  -- `Consumes` of two readers holds of readers equal to them.
  pub consumed : (old new from to : T) (front : List ℕ) → old ≡ from → to ≡ new → Consumes (remaining old) (remaining new) front → Consumes (remaining from) (remaining to) front
  consumed old new from to front e f h = subst (λ (r : T). Consumes (remaining r) (remaining to) front) e (subst (λ (r : T). Consumes (remaining old) (remaining r) front) (sym f) h)

  -- Let a source be able to give the prefix and n more bytes. Once the prefix is taken, the reader and the scratch have n bytes left.
  pub kept : (old new : IOReader T) (from to : T) (given rest : List ℕ) (front : List ℕ) → reader_of old ≡ from → scratch_of old ≡ given → to ≡ reader_of new → rest ≡ scratch_of new
      → ((n : ℕ) → CanRead remaining steady old (length front + n) → CanRead remaining steady new n)
      → (n : ℕ) → steady from → AtLeast (remaining from) (length front + n) → length front + n ≤ length given → AtLeast (remaining to) n × (n ≤ length rest)
  kept old new from to given rest front is_reader is_scratch to_is rest_is keeps n is_steady enough room =
      let able = keeps n (
        subst steady (sym is_reader) is_steady,
        subst (λ (r : T). AtLeast (remaining r) (length front + n)) (sym is_reader) enough,
        subst (λ (l : List ℕ). length front + n ≤ length l) (sym is_scratch) room,
      ) in
      (subst (λ (r : T). AtLeast (remaining r) n) (sym to_is) able.1, subst (λ (l : List ℕ). n ≤ length l) (sym rest_is) able.2)

-- What is left of scratch is also left of scratch equal to it.
pub kept_rear : (n : ℕ) (old new from to : List ℕ) → old ≡ from → to ≡ new → KeepsRear n old new → KeepsRear n from to
kept_rear n old new from to e f h = subst (λ (s : List ℕ). KeepsRear n s to) e (subst (λ (s : List ℕ). KeepsRear n old s) (sym f) h)
