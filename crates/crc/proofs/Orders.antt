-- The orders of the generators of the catalogue, by computing.
use Rattle.std.proofs.Common.{◌≡◌, ◌∷◌, [], true, refl}
use Rattle.crc.specs.Order.{shows_order}

pub order_8_07 : shows_order 8 0x07 10 (127 ∷ []) ≡ true
unfolding shows_order
order_8_07 = refl

pub order_8_31 : shows_order 8 0x31 10 (127 ∷ []) ≡ true
unfolding shows_order
order_8_31 = refl

pub order_16_1021 : shows_order 16 0x1021 11 (7 ∷ 31 ∷ 151 ∷ []) ≡ true
unfolding shows_order
order_16_1021 = refl

pub order_16_8005 : shows_order 16 0x8005 11 (7 ∷ 31 ∷ 151 ∷ []) ≡ true
unfolding shows_order
order_16_8005 = refl

pub order_24 : shows_order 24 0x864cfb 421 (47 ∷ 178481 ∷ []) ≡ true
unfolding shows_order
order_24 = refl

pub order_32 : shows_order 32 0x04c11db7 255 (3 ∷ 5 ∷ 17 ∷ 257 ∷ 65537 ∷ []) ≡ true
unfolding shows_order
order_32 = refl

pub order_32c : shows_order 32 0x1edc6f41 46340 (2147483647 ∷ []) ≡ true
unfolding shows_order
order_32c = refl

pub order_64 : shows_order 64 0x42f0e1eba9ea3693 361 (2 ∷ 7 ∷ 31 ∷ 151 ∷ 131071 ∷ []) ≡ true
unfolding shows_order
order_64 = refl

pub order_82 : shows_order 82 0x0308c0111011401440411 2 (3 ∷ 7 ∷ 13 ∷ []) ≡ true
unfolding shows_order
order_82 = refl
