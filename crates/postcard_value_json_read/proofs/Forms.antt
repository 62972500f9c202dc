-- Which form JSON has, by the result of a function that looks into it, such as `as_array`.
use Rattle.std.proofs.Common.{◌≡◌, ℕ, true, false, List, Some, None, refl}
use Rattle.std.specs.Prelude.{is_some}
use Rattle.serde_json.specs.Data.{Data, Num, Items, Members, null, boolean, number, string, object}
use Rattle.serde_json.specs.Data as values
use Rattle.serde_json.specs.Find.{as_null, as_str, as_array, as_object}

-- If `as_null` returns a value, the JSON is `null`.
pub null_is : (d : Data) → is_some (as_null d) ≡ true → d ≡ null
null_is null e = refl
null_is d e = cc e

pub not_null_is : (d : Data) → is_some (as_null d) ≡ false → d ≡ null → ⊥
not_null_is null e is = cc e
not_null_is d e is = cc is

-- If `as_str` returns a string, the JSON is that string.
pub string_is : (d : Data) (s : List ℕ) → Some s ≡ as_str d → d ≡ string s
string_is (string u) s e = cc e
string_is d s e = cc e

-- If `as_array` returns items, the JSON is the array of them.
pub array_is : (d : Data) (ds : Items) → Some ds ≡ as_array d → d ≡ values.array ds
array_is (values.array es) ds e = cc e
array_is d ds e = cc e

-- If `as_array` returns nothing, the JSON is no array.
pub no_array : (d : Data) (ds : Items) → None ≡ as_array d → d ≡ values.array ds → ⊥
no_array (values.array es) ds e is = cc e
no_array d ds e is = cc is

-- If `as_object` returns members, the JSON is the object of them.
pub object_is : (d : Data) (ms : Members) → Some ms ≡ as_object d → d ≡ object ms
object_is (object ns) ms e = cc e
object_is d ms e = cc e
