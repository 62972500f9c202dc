-- Lemmas on values that are written part by part. They join what each call wrote to what the calls wrote together.
use Rattle.std.proofs.Common.{◌≡◌, ◌⊎◌, inl, inr, Result, Ok, Err, IsErrAnd, ℕ, List, [], ◌++◌, append-nil}
use Rattle.std.proofs.lemmas.Result.{IfErr-weaker, err_from_is_err_and}
use Rattle.postcard_wire.specs.declared.error.Error.{Error}
use Rattle.postcard_ser_flavors.specs.declared.flavor.Flavor.{Ghosts}
use Rattle.postcard_ser_flavors.proofs.Parts.{begins_then, begins_more}
use Rattle.postcard_ser.specs.Writing.{Wrote, IsWriteError}

-- The error of a part may be one of the whole, if the whole may fail for the part's reasons.
pub error_may : {Q R : Error → Type 0} {T U : Type 0} → ((e : Error) → Q e → R e) → (T → U) → (e : Error) → IsWriteError T e ⊎ Q e → IsWriteError U e ⊎ R e
error_may i j e (inl (inl full)) = inl (inl full)
error_may i j e (inl (inr p)) = inl (inr (j p.0, p.1))
error_may i j e (inr q) = inr (i e q)

-- A statement that holds in either of two equal cases holds.
pub either : {P : Type 0} → P ⊎ P → P
either (inl p) = p
either (inr p) = p

-- What some part of a row of two does, one of the two does.
pub either_part : {P Q : Type 0} → P ⊎ (Q ⊎ ⊥) → P ⊎ Q
either_part (inl p) = inl p
either_part (inr (inl q)) = inr q
either_part (inr (inr none)) = absurd none

module _ {S O : Type 0} {F : Ghosts S O} where
  -- Writing no part appends nothing.
  pub wrote_none : {Q : Error → Type 0} {T : Type 0} (s : S) → Wrote F s [] Q T (Ok tt) s
  wrote_none s = record {
    appends = F.lawful.appended_none s;
    has_room = λ _. tt;
    named_error = tt;
    refused = λ _ _. tt;
    leaves = F.lawful.reaches_self s;
  }

  -- The value refuses itself before any part is written.
  pub wrote_refusal : {Q : Error → Type 0} {T : Type 0} {x : List ℕ} {e : Error} (s : S) → Q e → Wrote F s x Q T (Err e) s
  wrote_refusal {e} s q = record {
    appends = tt;
    has_room = λ _. q;
    named_error = inr q;
    refused = λ n _. absurd (n.has_none e q);
    leaves = F.lawful.reaches_self s;
  }

  -- The early return of a `?` returns the error of the call.
  pub wrote_err : {s t : S} {Q : Error → Type 0} {T : Type 0} {x : List ℕ} {e : Error} (r : Result (Unit {0}) Error) → IsErrAnd r (λ y. y ≡ e) → Wrote F s x Q T (Err e) t → Wrote F s x Q T r t
  wrote_err {s} {t} {Q} {T} {x} {e} r h w = let p = err_from_is_err_and r h in rw (p.1, p.2) w

  -- After a success, it doesn't matter for which reasons the call may fail.
  pub wrote_ok : {s t : S} {Q R : Error → Type 0} {T U : Type 0} {x : List ℕ} → Wrote F s x Q T (Ok tt) t → Wrote F s x R U (Ok tt) t
  wrote_ok w = record { appends = w.appends; has_room = λ _. tt; named_error = tt; refused = λ _ _. tt; leaves = w.leaves }

  -- The last part is followed by nothing.
  pub wrote_last : {s t : S} {Q : Error → Type 0} {T : Type 0} {r : Result (Unit {0}) Error} {x : List ℕ} → Wrote F s x Q T r t → Wrote F s (x ++ []) Q T r t
  wrote_last {x} w = rw append-nil w

  -- If the first part is refused, so is the whole.
  pub wrote_stop : {s t : S} {Q R : Error → Type 0} {T U : Type 0} {e : Error} (x y : List ℕ) → Wrote F s x Q T (Err e) t → ((e : Error) → Q e → R e) → (T → U) → Wrote F s (x ++ y) R U (Err e) t
  wrote_stop {s} {t} {Q} {R} {T} {U} {e} x y w i j = record {
    appends = tt;
    has_room = λ r. i e (w.has_room (F.lawful.room_front s x y r));
    named_error = error_may i j e w.named_error;
    refused = λ n d. begins_more x y (w.refused (record { has_none = λ e q. n.has_none e (i e q) }) d);
    leaves = w.leaves;
  }

  -- If the first part is written, the whole goes on with the others.
  pub wrote_then : {s t u : S} {P Q R : Error → Type 0} {T U V : Type 0} {r : Result (Unit {0}) Error} (x y : List ℕ) → Wrote F s x P V (Ok tt) t → Wrote F t y Q T r u → ((e : Error) → Q e → R e) → (T → U) → Wrote F s (x ++ y) R U r u
  wrote_then {s} {t} {u} {P} {Q} {R} {T} {U} {V} {r = Ok ok} x y w v i j = record {
    appends = F.lawful.appended_join s t u x y w.appends v.appends;
    has_room = λ r. tt;
    named_error = tt;
    refused = λ n d. tt;
    leaves = F.lawful.reaches_join s t u w.leaves v.leaves;
  }
  wrote_then {s} {t} {u} {P} {Q} {R} {T} {U} {V} {r = Err e} x y w v i j = record {
    appends = tt;
    has_room = λ r. i e (v.has_room (F.lawful.room_rest s t x y r w.appends w.leaves));
    named_error = error_may i j e v.named_error;
    refused = λ n d. begins_then F.lawful.appended_join x y w.appends (v.refused (record { has_none = λ e q. n.has_none e (i e q) }) d);
    leaves = F.lawful.reaches_join s t u w.leaves v.leaves;
  }

  -- A call that writes a part is one of the whole, if the whole may fail for the part's reasons.
  pub wrote_as : {s t : S} {Q R : Error → Type 0} {T U : Type 0} {r : Result (Unit {0}) Error} {x : List ℕ} → Wrote F s x Q T r t → ((e : Error) → Q e → R e) → (T → U) → Wrote F s x R U r t
  wrote_as {s} {t} {Q} {R} {T} {U} {r} {x} w i j = record {
    appends = w.appends;
    has_room = λ room. IfErr-weaker r Q R i (w.has_room room);
    named_error = IfErr-weaker r (λ e. IsWriteError T e ⊎ Q e) (λ e. IsWriteError U e ⊎ R e) (error_may i j) w.named_error;
    refused = λ n. w.refused (record { has_none = λ e q. n.has_none e (i e q) });
    leaves = w.leaves;
  }

  -- The last part of a row: no part follows it.
  pub wrote_end : {s t : S} {Q : Error → Type 0} {T : Type 0} {r : Result (Unit {0}) Error} {x : List ℕ} → Wrote F s x Q T r t → Wrote F s (x ++ []) (λ e. Q e ⊎ ⊥) (T ⊎ ⊥) r t
  wrote_end w = wrote_last (wrote_as w (λ e q. inl q) inl)

  -- Once everything that had room is written, there is room for no more bytes, so that `finalize`
  -- succeeds.
  pub wrote_closes : {s t : S} {Q : Error → Type 0} {T : Type 0} (x : List ℕ) → F.room s x → Wrote F s x Q T (Ok tt) t → F.room t []
  wrote_closes {s} {t} x r w = F.lawful.room_rest s t x [] (rw append-nil r) w.appends w.leaves
