-- What rules say of paths other than `_id`.
use Rattle.std.proofs.Common.{◌≡◌, ◌++◌, ℕ, ℤ, Bool, true, false, not, ◌&&◌, ◌||◌, List, [], ◌∷◌, sym, refl, ◌∙◌, ap, ap₂}
use Rattle.std.specs.List.{list_any}
use Rattle.view_sort.specs.Projection.{is_id, is_on, is_off, is_opposite, mixes, says_on, says_off}
use Rattle.view_sort.specs.declared.show.Show.{Show}
use Rattle.view_sort.specs.declared.show.Show.TheVariants as v

or_none : (b : Bool) → (b || false) ≡ b
or_none true = refl
or_none false = refl

or_assoc : (a b c : Bool) → (a || (b || c)) ≡ ((a || b) || c)
or_assoc true b c = refl
or_assoc false b c = refl

pub any_more : {X : Type 0} (p : X → Bool) (xs : List X) (x : X) → (list_any p xs || p x) ≡ list_any p (xs ++ x ∷ [])
any_more p [] x = sym (or_none (p x))
any_more p (y ∷ ys) x = sym (or_assoc (p y) (list_any p ys) (p x)) ∙ ap (λ b. p y || b) (any_more p ys x)

any_same : {X : Type 0} (p q : X → Bool) → ((x : X) → p x ≡ q x) → (xs : List X) → list_any p xs ≡ list_any q xs
any_same p q h [] = refl
any_same p q h (x ∷ xs) = ap₂ (λ a b. a || b) (h x) (any_same p q h xs)

any_none : {X : Type 0} (p : X → Bool) → ((x : X) → false ≡ p x) → (xs : List X) → false ≡ list_any p xs
any_none p h [] = refl
any_none p h (x ∷ xs) = ap₂ (λ a b. a || b) (h x) (any_none p h xs)

opposite_on : (s : Show) → is_off s ≡ is_opposite v.On s
opposite_on v.On = refl
opposite_on v.Off = refl
opposite_on (v.Slice n m) = refl

opposite_off : (s : Show) → is_on s ≡ is_opposite v.Off s
opposite_off v.On = refl
opposite_off v.Off = refl
opposite_off (v.Slice n m) = refl

and_none : (b : Bool) → (b && false) ≡ false
and_none true = refl
and_none false = refl

pub mixes_on : (r : List ℕ × Show) (es : List (List ℕ × Show)) → is_id r.0 ≡ false → r.1 ≡ v.On → says_off es ≡ list_any (mixes r) es
mixes_on r es id show =
    any_same _ (mixes r) (λ e. ap (λ b. not (is_id e.0) && b) (opposite_on e.1) ∙ ap₂ (λ a s. not a && (not (is_id e.0) && is_opposite s e.1)) (sym id) (sym show)) es

pub mixes_off : (r : List ℕ × Show) (es : List (List ℕ × Show)) → is_id r.0 ≡ false → r.1 ≡ v.Off → says_on es ≡ list_any (mixes r) es
mixes_off r es id show =
    any_same _ (mixes r) (λ e. ap (λ b. not (is_id e.0) && b) (opposite_off e.1) ∙ ap₂ (λ a s. not a && (not (is_id e.0) && is_opposite s e.1)) (sym id) (sym show)) es

pub mixes_slice : (r : List ℕ × Show) (es : List (List ℕ × Show)) (n : ℤ) (m : ℕ) → r.1 ≡ v.Slice n m → false ≡ list_any (mixes r) es
mixes_slice r es n m show = any_none (mixes r) (λ e. sym (ap (λ s. not (is_id r.0) && (not (is_id e.0) && is_opposite s e.1)) show ∙ ap (λ b. not (is_id r.0) && b) (and_none (not (is_id e.0))) ∙ and_none (not (is_id r.0)))) es

pub mixes_id : (r : List ℕ × Show) (es : List (List ℕ × Show)) → is_id r.0 ≡ true → false ≡ list_any (mixes r) es
mixes_id r es id = any_none (mixes r) (λ e. sym (ap (λ a. not a && (not (is_id e.0) && is_opposite r.1 e.1)) id)) es
