-- The number of values before the item is the number of turns that are left.
use Rattle.std.proofs.Common.{◌≡◌, ◌-◌, List, ℕ}
use Rattle.postcard_schema_text.specs.Text.{Then, TakesPhrase, IsSign, unblank}
use Rattle.postcard_value_json_read.specs.Parts.{AreValues}
use Rattle.postcard_value_json_read.specs.Values.{IsEndOf}
use Rattle.postcard_value_json_read.proofs.place.from_item.Given as goal

abbrev pub invariant-loop : goal.invariant-loop
invariant-loop l = record {
  item : (items : List ℕ) → TakesPhrase (Then (IsSign 91) (AreValues l.fn.index)) l.fn.array items → (left : List ℕ) × TakesPhrase (AreValues (l.fn.index - l.counter)) left items × (l.rest ≡ unblank left);
  end : IsEndOf l.fn.array l.rest;
}
