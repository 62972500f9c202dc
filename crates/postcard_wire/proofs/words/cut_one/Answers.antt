use Rattle.std.proofs.Common.{◌≡◌, ℕ, ◌≤◌, ◌⊎◌, inl, inr, List, take, length, get_or, bit_and}
use lib.Bits.{bit_xor}
use Rattle.postcard_wire.specs.Words.{word_of, IsCut, AreBytes, IsNarrow}
use Rattle.postcard_wire.proofs.WordBits.{IsRow, IsNoRow, row_cut}
use Rattle.postcard_wire.proofs.WordTables.{rows_16, rows_32, rows_64, on_table, data_table}
use Rattle.postcard_wire.proofs.words.cut_one.Goals as goal
use Rattle.postcard_wire.proofs.words.cut_one.Goals.{then-bits-eq16, else-bits-eq16+then-bits-eq32, else-bits-eq16+else-bits-eq32}

-- The row of a table for numbers of w bits.
cut : (w bits : ℕ) → bits ≡ w → (high table len word : ℕ) → high ≡ table →
    IsNoRow table (get_or on_table len 0) ⊎ IsRow w len table (get_or on_table len 0) (get_or data_table len 0) →
    (p : List ℕ) → AreBytes p → length p ≡ 8 → word ≡ word_of p →
    bit_xor (bit_and word high) (get_or on_table len 0) ≡ 0 →
    IsCut bits (take len p) (bit_and word (get_or data_table len 0)) × (len ≤ 8)
cut w bits b high table len word t row p h l is e =
    rw (b, is) (row_cut w len table _ _ row p h l (rw (t, is) at e))

-- Bits that are neither 16 nor 32 are 64.
last : (bits : ℕ) → IsNarrow bits → (bits ≡ 16 → ⊥) → (bits ≡ 32 → ⊥) → bits ≡ 64
last bits (inl a) n m = absurd (n a)
last bits (inr (inl a)) n m = absurd (m a)
last bits (inr (inr a)) n m = a

pub returns : goal.returns
returns c p h l is e =
    elim c.if-bits-eq16.branch [
      | then-bits-eq16 w ↦
          cut 16 c.args.bits w.if-bits-eq16.true _ _ c.args.len c.args.word w.high_bits-is (rows_16 c.args.len c.requires.within) p h l is e
      | else-bits-eq16+then-bits-eq32 w ↦
          cut 32 c.args.bits w.if-bits-eq32.true _ _ c.args.len c.args.word w.high_bits-is (rows_32 c.args.len c.requires.within) p h l is e
      | else-bits-eq16+else-bits-eq32 w ↦
          cut 64 c.args.bits (last c.args.bits c.requires.width w.if-bits-eq16.false w.if-bits-eq32.false) _ _ c.args.len c.args.word w.high_bits-is (rows_64 c.args.len c.requires.within) p h l is e
    ]
