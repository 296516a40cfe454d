-- Paths and requests, read in one way.
use Rattle.std.proofs.Common.{◌≡◌, ◌<◌, ◌≤◌, ◌+◌, nat_lt, length, length-append, append_assoc, inl, inr, ◌++◌, ◌∷◌, [], ℕ, zero, suc, get_or, List, true, false, not, ◌==◌, IsTrue, Option, Some, None, refl, sym, ◌∙◌, ap, arith, codes}
use Rattle.std.proofs.lemmas.Bool.Decides.{nat_tests}
use Rattle.std.proofs.lemmas.Str.{IsUtf8-from_ascii}
use Rattle.std.specs.Str.{IsUtf8, IsAscii}
use Rattle.std.proofs.lemmas.List.{append-nil}
use Rattle.std.specs.List.{list_all}
use Rattle.api_serve.specs.Separated.{is_free_of}
use Rattle.api_serve.specs.Request.{Parts, Spells, IsHopeless, is_skipped, is_part_byte, is_part, is_collection_part, collection_path}
use Rattle.api_serve.specs.Asked.{IsPlace}
use Rattle.api_serve.proofs.Cuts.{both_true, joined_true, cut_once, not_free, free_joined}

byte_no_slash : (x : ℕ) → is_part_byte x ≡ true → not (x == 47) ≡ true
byte_no_slash x e = grind (arith, nat_tests)

byte_no_space : (x : ℕ) → is_part_byte x ≡ true → not (x == 32) ≡ true
byte_no_space x e = grind (arith, nat_tests)

bytes_free : (b : ℕ) → ((x : ℕ) → is_part_byte x ≡ true → not (x == b) ≡ true) → (bytes : List ℕ) → list_all is_part_byte bytes ≡ true → IsTrue (is_free_of b bytes)
bytes_free b other [] e = refl
bytes_free b other (x ∷ xs) e =
    let parts = both_true (is_part_byte x) (list_all is_part_byte xs) e in
    joined_true (not (x == b)) (is_free_of b xs) (other x parts.0) (bytes_free b other xs parts.1)

part_free : (b : ℕ) → ((x : ℕ) → is_part_byte x ≡ true → not (x == b) ≡ true) → (part : List ℕ) → IsTrue (is_part part) → IsTrue (is_free_of b part)
part_free b other [] e = refl
part_free b other (x ∷ xs) e = bytes_free b other (x ∷ xs) e

-- a path has no space
collection_free : (collection : Option (List ℕ)) → IsTrue (is_collection_part collection) → IsTrue (is_free_of 32 (collection_path collection))
collection_free None p = refl
collection_free (Some name) p = part_free 32 byte_no_space name p

path_free : (keyspace : List ℕ) (collection : Option (List ℕ)) → IsTrue (is_part keyspace) → IsTrue (is_collection_part collection) → IsTrue (is_free_of 32 (keyspace ++ collection_path collection))
path_free keyspace collection p q = free_joined 32 keyspace (collection_path collection) (part_free 32 byte_no_space keyspace p) (collection_free collection q)

both_parts : (path first second keyspace : List ℕ) (collection : Option (List ℕ)) → path ≡ first ++ 47 ∷ second → IsTrue (is_free_of 47 first) → IsPlace path keyspace collection
    → IsTrue (is_part first) × IsTrue (is_part second)
both_parts path first second keyspace None text free place =
    absurd (not_free 47 first second (ap (is_free_of 47) (sym text ∙ place.text ∙ append-nil keyspace) ∙ part_free 47 byte_no_slash keyspace place.first))
both_parts path first second keyspace (Some name) text free place =
    let parts = cut_once 47 first keyspace second name free (part_free 47 byte_no_slash keyspace place.first) (sym text ∙ place.text) in
    (ap is_part parts.0 ∙ place.first, ap is_part parts.1 ∙ place.second)

-- a path with a bad part in front
pub bad_first : (path first second : List ℕ) → path ≡ first ++ 47 ∷ second → IsTrue (is_free_of 47 first) → is_part first ≡ false
    → (keyspace : List ℕ) (collection : Option (List ℕ)) → IsPlace path keyspace collection → ⊥
bad_first path first second text free bad keyspace collection place = Prim.cc (bad, (both_parts path first second keyspace collection text free place).0)

pub bad_second : (path first second : List ℕ) → path ≡ first ++ 47 ∷ second → IsTrue (is_free_of 47 first) → is_part second ≡ false
    → (keyspace : List ℕ) (collection : Option (List ℕ)) → IsPlace path keyspace collection → ⊥
bad_second path first second text free bad keyspace collection place = Prim.cc (bad, (both_parts path first second keyspace collection text free place).1)

-- a path of one bad part
pub bad_only : (path : List ℕ) → IsTrue (is_free_of 47 path) → is_part path ≡ false → (keyspace : List ℕ) (collection : Option (List ℕ)) → IsPlace path keyspace collection → ⊥
bad_only path free bad keyspace None place = Prim.cc (bad, ap is_part (place.text ∙ append-nil keyspace), place.first)
bad_only path free bad keyspace (Some name) place = not_free 47 keyspace name (ap (is_free_of 47) (sym place.text) ∙ free)

-- what a request's line holds behind `/v1/`
pub behind_version : (line : List ℕ) (request : Parts) → Spells line request → line ≡ codes "/v1/" ++ ((request.keyspace ++ collection_path request.collection) ++ 32 ∷ request.body)
behind_version line request asks = asks.text

pub has_space : (rest : List ℕ) (line : List ℕ) (request : Parts) → line ≡ codes "/v1/" ++ rest → IsTrue (is_free_of 32 rest) → Spells line request → ⊥
has_space rest line request is free asks =
    let same : rest ≡ (request.keyspace ++ collection_path request.collection) ++ 32 ∷ request.body = Prim.cc (is, asks.text) in
    not_free 32 (request.keyspace ++ collection_path request.collection) request.body (ap (is_free_of 32) (sym same) ∙ free)

pub same_parts : (rest path body line : List ℕ) (request : Parts) → line ≡ codes "/v1/" ++ rest → rest ≡ path ++ 32 ∷ body → IsTrue (is_free_of 32 path) → Spells line request
    → IsPlace path request.keyspace request.collection × (body ≡ request.body)
same_parts rest path body line request is cut free asks =
    let same : rest ≡ (request.keyspace ++ collection_path request.collection) ++ 32 ∷ request.body = Prim.cc (is, asks.text) in
    let parts = cut_once 32 path (request.keyspace ++ collection_path request.collection) body request.body free (path_free request.keyspace request.collection asks.keyspace asks.collection) (sym cut ∙ same) in
    (record { text = parts.0; first = asks.keyspace; second = asks.collection }, parts.1)

-- ---- lines that can't be right any more

skipped_short : (line : List ℕ) → IsTrue (is_skipped line) → length line ≤ 1
skipped_short [] e = omega arith
skipped_short (b ∷ []) e = omega arith
skipped_short (b ∷ c ∷ bytes) e = absurd (Prim.cc e)

longer : (xs ys : List ℕ) → length xs ≤ length (xs ++ ys)
longer xs ys = omega (arith, length-append xs ys)

body_fits : (part path body more : List ℕ) (request : Parts) → part ≡ path ++ 32 ∷ body → IsTrue (is_free_of 32 path) → Spells (part ++ more) request → length body ≤ 20000000
body_fits part path body more request text free asks =
    let front = request.keyspace ++ collection_path request.collection in
    let line : part ++ more ≡ (47 ∷ 118 ∷ 49 ∷ 47 ∷ front) ++ 32 ∷ request.body = asks.text in
    let cut : path ++ 32 ∷ (body ++ more) ≡ (47 ∷ 118 ∷ 49 ∷ 47 ∷ front) ++ 32 ∷ request.body =
    sym (ap (λ xs. xs ++ more) text ∙ append_assoc path (32 ∷ body) more) ∙ line in
    let free_front : IsTrue (is_free_of 32 (47 ∷ 118 ∷ 49 ∷ 47 ∷ front)) = path_free request.keyspace request.collection asks.keyspace asks.collection in
    let parts = cut_once 32 path (47 ∷ 118 ∷ 49 ∷ 47 ∷ front) (body ++ more) request.body free free_front cut in
    let most : length request.body ≤ 20000000 = asks.body in
    omega (arith, longer body more, ap length parts.1, most)

-- a line whose body is too long already
pub long_hopeless : (part path body : List ℕ) → part ≡ path ++ 32 ∷ body → IsTrue (is_free_of 32 path) → 20000000 < length body → IsHopeless part
long_hopeless part path body text free long more (inl skipped) =
    let size : length part ≡ length path + length (32 ∷ body) = ap length text ∙ length-append path (32 ∷ body) in
    let behind : length (32 ∷ body) ≡ length body + 1 = omega arith in
    absurd (omega (arith, skipped_short (part ++ more) skipped, longer part more, size, behind))
long_hopeless part path body text free long more (inr asked) = absurd (omega (arith, body_fits part path body more asked.0 text free asked.1, long))

-- a line that begins like no path
pub pathless : (part : List ℕ) → 4 < length part → ((rest : List ℕ) → part ≡ codes "/v1/" ++ rest → ⊥) → IsHopeless part
pathless part long none more (inl skipped) = absurd (omega (arith, skipped_short (part ++ more) skipped, longer part more, long))
pathless [] long none more (inr asked) = absurd (omega (arith, long))
pathless (a ∷ []) long none more (inr asked) = absurd (omega (arith, long))
pathless (a ∷ b ∷ []) long none more (inr asked) = absurd (omega (arith, long))
pathless (a ∷ b ∷ c ∷ []) long none more (inr asked) = absurd (omega (arith, long))
pathless (a ∷ b ∷ c ∷ d ∷ xs) long none more (inr asked) =
    let request = asked.0 in
    let line : a ∷ b ∷ c ∷ d ∷ (xs ++ more) ≡ 47 ∷ 118 ∷ 49 ∷ 47 ∷ ((request.keyspace ++ collection_path request.collection) ++ 32 ∷ request.body) = asked.1.text in
    let p : a ≡ 47 = Prim.cc line in
    let q : b ≡ 118 = Prim.cc line in
    let r : c ≡ 49 = Prim.cc line in
    let s : d ≡ 47 = Prim.cc line in
    none xs (λ i. p i ∷ q i ∷ r i ∷ s i ∷ xs)

-- the body of a line is what stands behind its first space
pub long_seen : (part path body path₂ body₂ : List ℕ) → part ≡ path ++ 32 ∷ body → IsTrue (is_free_of 32 path) → part ≡ path₂ ++ 32 ∷ body₂ → IsTrue (is_free_of 32 path₂) → 20000000 < length body₂
    → nat_lt 20000000 (length body) ≡ true
long_seen part path body path₂ body₂ text free text₂ free₂ long =
    let parts = cut_once 32 path path₂ body body₂ free free₂ (sym text ∙ text₂) in
    let long' : 20000000 < length body = omega (arith, long, ap length parts.1) in
    grind (arith, nat_tests)

-- ---- a part is text

part_bytes : (bytes : List ℕ) → list_all is_part_byte bytes ≡ true → (i : ℕ) → get_or bytes i 0 < 128
part_bytes [] e i = omega arith
part_bytes (b ∷ bytes) e zero = let low = (both_true (is_part_byte b) (list_all is_part_byte bytes) e).0 in grind (arith, nat_tests)
part_bytes (b ∷ bytes) e (suc i) = part_bytes bytes (both_true (is_part_byte b) (list_all is_part_byte bytes) e).1 i

part_ascii : (part : List ℕ) → IsTrue (is_part part) → IsAscii part
part_ascii [] e = λ i. omega arith
part_ascii (b ∷ bytes) e = part_bytes (b ∷ bytes) e

pub part_utf8 : (part : List ℕ) → IsTrue (is_part part) → IsUtf8 part
part_utf8 part e = IsUtf8-from_ascii part (part_ascii part e)
