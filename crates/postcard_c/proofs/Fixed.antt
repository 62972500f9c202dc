-- Numbers at their full width, read from bytes that were filled.
use Rattle.std.proofs.Common.{◌≡◌, ◌≢◌, ◌∙◌, ℕ, List, sym, ap, arith}
use Rattle.postcard_c.specs.declared.reader.Reader.{Reader}
use Rattle.postcard_c.specs.Reading.{GetsBytes, GetsFixed}

-- The bytes were read, and the number is theirs.
pub number_read : (value : List ℕ → ℕ) (k : ℕ) {old new : Reader} {before now : List ℕ} {was is status : ℕ}
    → GetsBytes k old new before now status → status ≡ 0 → is ≡ value now
    → GetsFixed value k old new was is status
number_read value k g zero is_theirs = record {
  same_bytes = g.same_bytes;
  returns_status = g.returns_status;
  failed_before = λ n.
      absurd (n (sym (ap (λ (r : Reader). r.status) (g.failed_before n).0) ∙ sym g.returns_status ∙ zero));
  is_read = λ o fits. let r = g.is_read o fits in (r.0, r.1, is_theirs ∙ ap value r.2);
  short = λ o few. absurd (omega (arith, (g.short o few).0, g.returns_status, zero));
}

-- They could not be read, and the number is as before.
pub number_refused : (value : List ℕ → ℕ) (k : ℕ) {old new : Reader} {before now : List ℕ} {was is status : ℕ}
    → GetsBytes k old new before now status → status ≢ 0 → is ≡ was
    → GetsFixed value k old new was is status
number_refused value k g failed same = record {
  same_bytes = g.same_bytes;
  returns_status = g.returns_status;
  failed_before = λ n. ((g.failed_before n).0, same);
  is_read = λ o fits. absurd (failed (g.returns_status ∙ (g.is_read o fits).0));
  short = λ o few. let r = g.short o few in (r.0, r.1, same);
}
