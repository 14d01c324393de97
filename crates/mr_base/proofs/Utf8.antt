use Rattle.std.proofs.Common.{◌≡◌, ℕ, true, false, List, refl, sym}
use Rattle.std.proofs.lemmas.Str.{is_utf8-from_IsUtf8, IsUtf8-from_is_utf8}
use Rattle.std.specs.Str.{IsUtf8, is_utf8}

-- the test of UTF-8 answers as its meaning says
pub is_text : (bs : List ℕ) → IsUtf8 bs → true ≡ is_utf8 bs
is_text bs h = sym (is_utf8-from_IsUtf8 bs h)

pub is_no_text : (bs : List ℕ) → ¬ IsUtf8 bs → false ≡ is_utf8 bs
is_no_text bs h = elim (is_utf8 bs) as (λ b. is_utf8 bs ≡ b → false ≡ b) [ true ↦ λ e. absurd (h (IsUtf8-from_is_utf8 bs e)) | false ↦ λ e. refl ] refl
