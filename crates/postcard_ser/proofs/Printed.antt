-- Printing a text into a writer appends the pieces of the text one after the other.
use Rattle.std.proofs.Common.{◌≡◌, ℕ, ◌+◌, List, [], ◌∷◌, ◌++◌, length, Option, Some, None, Result, Ok, Err, OnOk, refl, subst, arith, length-append}
use Rattle.std.specs.Prelude.{IfSome, IsUtf8}
use Rattle.std.proofs.lemmas.Str.{IsUtf8-nil, IsUtf8-append}
use Rattle.std.specs.List.{concat, FoldsTo}
use Rattle.std.specs.Fmt.{WritesInCalls, WritesText, DisplaysOnOk, IsPlainFormatter, formatter_writer}
use Rattle.std.specs.declared.fmt.Formatter.{Formatter}
use Rattle.std.specs.declared.fmt.Error.{Error}

module _ {S W : Type 0} (out : W → S) (appended : S → List ℕ → S → Type 0) (none : (s : S) → appended s [] s) (join : (s t u : S) (x y : List ℕ) → appended s x t → appended t y u → appended s (x ++ y) u) where
  -- Pieces written one after the other are appended as one text.
  pub pieces_appended : (w : W) (parts : List (List ℕ)) (v : W) → FoldsTo (λ s x t. appended (out s) x (out t)) w parts v → appended (out w) (concat parts) (out v)
  pieces_appended w [] v e = subst (λ z. appended (out w) [] (out z)) e (none (out w))
  pieces_appended w (x ∷ xs) v f = join (out w) (out f.0) (out v) x (concat xs) f.1 (pieces_appended f.0 xs v f.2)

  -- A text that was written in some pieces is appended.
  pub calls_appended : (w : W) (text : List ℕ) (v : W) → WritesInCalls (λ s x t. appended (out s) x (out t)) w text v → appended (out w) text (out v)
  calls_appended w text v h = subst (λ z. appended (out w) z (out v)) h.whole (pieces_appended w h.parts v h.calls)

  -- The text that a value is known to print is appended.
  pub text_appended : (w : W) (o : Option (List ℕ)) (v : W) → WritesText (λ s x t. appended (out s) x (out t)) w o v → IfSome o (λ u. appended (out w) u (out v))
  text_appended w None v h = tt
  text_appended w (Some u) v h = calls_appended w u v h

  -- The text is also appended if it is printed through a formatter without options.
  pub displayed : (f : Formatter W) (r : Result (Unit {0}) Error) (o : Option (List ℕ)) (g : Formatter W) → DisplaysOnOk (λ s x t. appended (out s) x (out t)) f r o g → IsPlainFormatter f → OnOk r (IfSome o (λ u. appended (out f.writer) u (out g.writer)))
  displayed f (Err e) o g h p = tt
  displayed f (Ok a) None g h p = tt
  displayed f (Ok a) (Some u) g h p = let q = h p refl in calls_appended f.writer u g.writer q.wrote

  -- The text is appended from the writer that a formatter was made of to the one that it returns.
  pub printed : (w : W) (f : Formatter W) (r : Result (Unit {0}) Error) (o : Option (List ℕ)) (g : Formatter W) (v : W) → formatter_writer f ≡ w → DisplaysOnOk (λ s x t. appended (out s) x (out t)) f r o g → IsPlainFormatter f → v ≡ formatter_writer g → OnOk r (IfSome o (λ u. appended (out w) u (out v)))
  printed w f r o g v e h p i = rw i (rw (← e) (displayed f r o g h p))

-- A writer that counts from 0 what is printed, in pieces of UTF-8, has the length of the text,
-- which is UTF-8.
pub text_counted : {W : Type 0} (out : W → ℕ) (w : W) (o : Option (List ℕ)) (v : W) → out w ≡ 0 → WritesText (λ s x t. (out t ≡ out s + length x) × IsUtf8 x) w o v → IfSome o (λ u. (out v ≡ length u) × IsUtf8 u)
text_counted out w None v e h = tt
text_counted out w (Some u) v e h =
    let p = calls_appended out (λ a x b. (b ≡ a + length x) × IsUtf8 x) (λ s. (omega arith, IsUtf8-nil)) (λ a b c x y p q. (omega (arith, length-append x y, p.0, q.0), IsUtf8-append x y p.1 q.1)) w u v h in
    (omega (arith, p.0), p.1)
