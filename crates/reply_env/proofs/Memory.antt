-- The text of the reply on want of memory.
use Rattle.std.proofs.Common.{◌≡◌, ◌++◌, ◌∷◌, [], ◌≤◌, ◌<◌, ◌^◌, ℕ, List, refl, ◌∙◌, ap, ap₂, arith, append_assoc, codes, decimal}
use Rattle.std.specs.List.{flat_map}
use Rattle.std.proofs.lemmas.Grind.{flat_map-append}
use Rattle.std.proofs.lemmas.Bool.{ne_eqb}
use Rattle.std.specs.Str.Parse.{AllDigits}
use Rattle.std.proofs.lemmas.Str.Parse.{digit_from_value}
use Rattle.std.proofs.lemmas.Fmt.{decimal_is_IsNumeral}
use Rattle.json_text.specs.Print.{escaped}
use Rattle.name_tables.specs.declared.code.Code.TheVariants.{OutOfMemory}
use Rattle.reply_env.specs.Messages.{out_of_memory}
use Rattle.reply_env.specs.Reply.{errors_text}

plain : (x : ℕ) → 48 ≤ x → x ≤ 57 → escaped x ≡ x ∷ []
unfolding escaped
plain x low high = grind (arith, ne_eqb)

digits_plain : (ds : List ℕ) → AllDigits 10 ds → flat_map escaped ds ≡ ds
digits_plain [] h = refl
digits_plain (d ∷ ds) h = let range = digit_from_value d h.0 in ap₂ (λ here rest. here ++ rest) (plain d range.0 range.1) (digits_plain ds h.1)

-- the three pieces, behind one another
pub three_in_a_row : (start one two three a b digits c : List ℕ) → start ≡ [] → one ≡ start ++ a → digits ≡ b → two ≡ one ++ digits → three ≡ two ++ c → three ≡ a ++ b ++ c
three_in_a_row start one two three a b digits c s p d q r =
    r ∙ ap (λ x. x ++ c) (q ∙ ap₂ (λ x y. x ++ y) (p ∙ ap (λ x. x ++ a) s) d)

around : (ds : List ℕ) → flat_map escaped ds ≡ ds
    → codes "{\"errors\":[{\"message\":\"Out of memory after " ++ ds ++ codes " accepted writes\",\"errorCode\":\"OUT_OF_MEMORY\"}]}"
    ≡ codes "{" ++ errors_text (record { code = OutOfMemory; message = codes "Out of memory after " ++ ds ++ codes " accepted writes" } ∷ [])
unfolding escaped
around ds plain_ds =
    let inner : flat_map escaped (ds ++ codes " accepted writes") ≡ ds ++ codes " accepted writes" =
    flat_map-append escaped ds (codes " accepted writes") ∙ ap (λ x. x ++ flat_map escaped (codes " accepted writes")) plain_ds in
    rw inner (simp append_assoc)

pub memory_text : (n : ℕ) → n < 2 ^ 64
    → codes "{\"errors\":[{\"message\":\"Out of memory after " ++ decimal n ++ codes " accepted writes\",\"errorCode\":\"OUT_OF_MEMORY\"}]}"
    ≡ codes "{" ++ errors_text (out_of_memory n ∷ [])
memory_text n fits = around (decimal n) (digits_plain (decimal n) (decimal_is_IsNumeral n fits).0.1)
