-- The tables of masks, row by row.
use Rattle.std.proofs.Common.{ℕ, zero, suc, ◌≤◌, ◌⊎◌, inl, inr, List, [], ◌∷◌, get_or, refl, arith}
use Rattle.postcard_wire.proofs.WordBits.{IsRow, IsNoRow, tops_128, tops_16, tops_4}

-- The data of each byte, by the number of bytes.
abbrev pub data_table : List ℕ
data_table = 0 ∷ 127 ∷ 32639 ∷ 8355711 ∷ 2139062143 ∷ 547599908735 ∷ 140185576636287 ∷ 35887507618889599 ∷ 9187201950435737471 ∷ 0 ∷ []

-- The high bits of a number that goes on, by the number of bytes.
abbrev pub on_table : List ℕ
on_table = 1 ∷ 0 ∷ 128 ∷ 32896 ∷ 8421504 ∷ 2155905152 ∷ 551911719040 ∷ 141289400074368 ∷ 36170086419038336 ∷ 1 ∷ []

-- The high bits of a number of 16 bits, by the number of bytes.
abbrev pub high_table_16 : List ℕ
high_table_16 = 0 ∷ 128 ∷ 32896 ∷ 16547968 ∷ 0 ∷ 0 ∷ 0 ∷ 0 ∷ 0 ∷ 0 ∷ []

pub rows_16 : (len : ℕ) → len ≤ 9 →
    IsNoRow (get_or high_table_16 len 0) (get_or on_table len 0)
    ⊎ IsRow 16 len (get_or high_table_16 len 0) (get_or on_table len 0) (get_or data_table len 0)
rows_16 zero h = inl (record { no_high = refl; some_on = omega arith })
rows_16 (suc zero) h = inr (record { k = 0; last = 128; top = 128; tops = tops_128; is_len = refl; is_high = refl; is_on = refl; is_data = refl; count = omega arith; few = omega arith; below = omega arith })
rows_16 (suc (suc zero)) h = inr (record { k = 1; last = 128; top = 128; tops = tops_128; is_len = refl; is_high = refl; is_on = refl; is_data = refl; count = omega arith; few = omega arith; below = omega arith })
rows_16 (suc (suc (suc zero))) h = inr (record { k = 2; last = 252; top = 4; tops = tops_4; is_len = refl; is_high = refl; is_on = refl; is_data = refl; count = omega arith; few = omega arith; below = omega arith })
rows_16 (suc (suc (suc (suc zero)))) h = inl (record { no_high = refl; some_on = omega arith })
rows_16 (suc (suc (suc (suc (suc zero))))) h = inl (record { no_high = refl; some_on = omega arith })
rows_16 (suc (suc (suc (suc (suc (suc zero)))))) h = inl (record { no_high = refl; some_on = omega arith })
rows_16 (suc (suc (suc (suc (suc (suc (suc zero))))))) h = inl (record { no_high = refl; some_on = omega arith })
rows_16 (suc (suc (suc (suc (suc (suc (suc (suc zero)))))))) h = inl (record { no_high = refl; some_on = omega arith })
rows_16 (suc (suc (suc (suc (suc (suc (suc (suc (suc zero))))))))) h = inl (record { no_high = refl; some_on = omega arith })
rows_16 (suc (suc (suc (suc (suc (suc (suc (suc (suc (suc n)))))))))) h = absurd (omega arith)

-- The high bits of a number of 32 bits, by the number of bytes.
abbrev pub high_table_32 : List ℕ
high_table_32 = 0 ∷ 128 ∷ 32896 ∷ 8421504 ∷ 2155905152 ∷ 1032948056192 ∷ 0 ∷ 0 ∷ 0 ∷ 0 ∷ []

pub rows_32 : (len : ℕ) → len ≤ 9 →
    IsNoRow (get_or high_table_32 len 0) (get_or on_table len 0)
    ⊎ IsRow 32 len (get_or high_table_32 len 0) (get_or on_table len 0) (get_or data_table len 0)
rows_32 zero h = inl (record { no_high = refl; some_on = omega arith })
rows_32 (suc zero) h = inr (record { k = 0; last = 128; top = 128; tops = tops_128; is_len = refl; is_high = refl; is_on = refl; is_data = refl; count = omega arith; few = omega arith; below = omega arith })
rows_32 (suc (suc zero)) h = inr (record { k = 1; last = 128; top = 128; tops = tops_128; is_len = refl; is_high = refl; is_on = refl; is_data = refl; count = omega arith; few = omega arith; below = omega arith })
rows_32 (suc (suc (suc zero))) h = inr (record { k = 2; last = 128; top = 128; tops = tops_128; is_len = refl; is_high = refl; is_on = refl; is_data = refl; count = omega arith; few = omega arith; below = omega arith })
rows_32 (suc (suc (suc (suc zero)))) h = inr (record { k = 3; last = 128; top = 128; tops = tops_128; is_len = refl; is_high = refl; is_on = refl; is_data = refl; count = omega arith; few = omega arith; below = omega arith })
rows_32 (suc (suc (suc (suc (suc zero))))) h = inr (record { k = 4; last = 240; top = 16; tops = tops_16; is_len = refl; is_high = refl; is_on = refl; is_data = refl; count = omega arith; few = omega arith; below = omega arith })
rows_32 (suc (suc (suc (suc (suc (suc zero)))))) h = inl (record { no_high = refl; some_on = omega arith })
rows_32 (suc (suc (suc (suc (suc (suc (suc zero))))))) h = inl (record { no_high = refl; some_on = omega arith })
rows_32 (suc (suc (suc (suc (suc (suc (suc (suc zero)))))))) h = inl (record { no_high = refl; some_on = omega arith })
rows_32 (suc (suc (suc (suc (suc (suc (suc (suc (suc zero))))))))) h = inl (record { no_high = refl; some_on = omega arith })
rows_32 (suc (suc (suc (suc (suc (suc (suc (suc (suc (suc n)))))))))) h = absurd (omega arith)

-- The high bits of a number of 64 bits, by the number of bytes.
abbrev pub high_table_64 : List ℕ
high_table_64 = 0 ∷ 128 ∷ 32896 ∷ 8421504 ∷ 2155905152 ∷ 551911719040 ∷ 141289400074368 ∷ 36170086419038336 ∷ 9259542123273814144 ∷ 0 ∷ []

pub rows_64 : (len : ℕ) → len ≤ 9 →
    IsNoRow (get_or high_table_64 len 0) (get_or on_table len 0)
    ⊎ IsRow 64 len (get_or high_table_64 len 0) (get_or on_table len 0) (get_or data_table len 0)
rows_64 zero h = inl (record { no_high = refl; some_on = omega arith })
rows_64 (suc zero) h = inr (record { k = 0; last = 128; top = 128; tops = tops_128; is_len = refl; is_high = refl; is_on = refl; is_data = refl; count = omega arith; few = omega arith; below = omega arith })
rows_64 (suc (suc zero)) h = inr (record { k = 1; last = 128; top = 128; tops = tops_128; is_len = refl; is_high = refl; is_on = refl; is_data = refl; count = omega arith; few = omega arith; below = omega arith })
rows_64 (suc (suc (suc zero))) h = inr (record { k = 2; last = 128; top = 128; tops = tops_128; is_len = refl; is_high = refl; is_on = refl; is_data = refl; count = omega arith; few = omega arith; below = omega arith })
rows_64 (suc (suc (suc (suc zero)))) h = inr (record { k = 3; last = 128; top = 128; tops = tops_128; is_len = refl; is_high = refl; is_on = refl; is_data = refl; count = omega arith; few = omega arith; below = omega arith })
rows_64 (suc (suc (suc (suc (suc zero))))) h = inr (record { k = 4; last = 128; top = 128; tops = tops_128; is_len = refl; is_high = refl; is_on = refl; is_data = refl; count = omega arith; few = omega arith; below = omega arith })
rows_64 (suc (suc (suc (suc (suc (suc zero)))))) h = inr (record { k = 5; last = 128; top = 128; tops = tops_128; is_len = refl; is_high = refl; is_on = refl; is_data = refl; count = omega arith; few = omega arith; below = omega arith })
rows_64 (suc (suc (suc (suc (suc (suc (suc zero))))))) h = inr (record { k = 6; last = 128; top = 128; tops = tops_128; is_len = refl; is_high = refl; is_on = refl; is_data = refl; count = omega arith; few = omega arith; below = omega arith })
rows_64 (suc (suc (suc (suc (suc (suc (suc (suc zero)))))))) h = inr (record { k = 7; last = 128; top = 128; tops = tops_128; is_len = refl; is_high = refl; is_on = refl; is_data = refl; count = omega arith; few = omega arith; below = omega arith })
rows_64 (suc (suc (suc (suc (suc (suc (suc (suc (suc zero))))))))) h = inl (record { no_high = refl; some_on = omega arith })
rows_64 (suc (suc (suc (suc (suc (suc (suc (suc (suc (suc n)))))))))) h = absurd (omega arith)
