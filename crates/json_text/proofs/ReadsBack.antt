-- A text that was printed spells what it was printed from.
use Rattle.std.proofs.Common.{◌≡◌, ℕ, zero, suc, ◌+◌, ◌-◌, ◌*◌, ◌^◌, ◌<◌, ◌≤◌, ℤ, pos, negsuc, neg_ℤ, List, [], ◌∷◌, ◌++◌, length, take, drop, Bool, true, false, cond, decimal, Some, IsUtf8, refl, sym, ap, ap₂, ◌∙◌, arith, subst, append_assoc}
use Rattle.std.proofs.lemmas.List.{append-nil}
use Rattle.std.proofs.lemmas.Str.{IsUtf8-append}
use Rattle.std.specs.List.{prefix_len, list_all}
use Rattle.std.specs.Fmt.{signed_decimal}
use Rattle.json_tree.specs.Num.{IsNumber}
use Rattle.json_tree.specs.Tree.{Tree, Elements, no_elements, element, Members, no_members, member}
use Rattle.json_tree.specs.Tree as tree
use Rattle.json_text.specs.Token.{Token, Placed, begin_object, end_object, begin_array, end_array, name_separator, value_separator, string, number, boolean, null}
use Rattle.json_text.specs.Numeral.{is_numeral_byte}
use Rattle.json_text.specs.Lex.{is_blank, is_letter, string_token, word_token, token_at, tokens_from}
use Rattle.json_text.specs.Grammar.{text_tokens, tokens_of, elements_tokens, more_elements, fields_tokens, more_fields, erased, Reads}
use Rattle.json_text.specs.Print.{escaped, string_text, trimmed, with_point, magnitude_text, number_text, boolean_text, date_text, text_of, elements_text, members_text, more_members}
use Rattle.json_text.specs.Print as print
use Rattle.json_tree.specs.Dates.{date_name}
use Rattle.json_tree.specs.Writables.{writable_value}
use Rattle.json_tree.specs.Writable.{IsValue, AreValues, MembersAreValues, IsWritable, AreWritable, MembersAreWritable, IsI64, tree_levels}
use Rattle.json_text.proofs.Lexing.{token_next}
use Rattle.json_text.proofs.StringsReadBack.{content_again}
use Rattle.json_text.proofs.NumbersReadBack.{RunEnds, run_front, run_rest, number_again, all_number, Starts, number_starts}
use Rattle.json_text.proofs.PrintedIsUtf8.{are_ascii, utf8-ascii, utf8-string, utf8-numeral}
use Rattle.json_text.proofs.Written.{millis, json_of, elements_json, fields_json, same_levels, all_numbers, tree_again, whole_of, part_of}

-- ---- the tokens of bytes, wherever they stand

abbrev pub spelled : List ℕ → List Token
spelled bytes = erased (tokens_from 0 0 bytes)

both_erased : (c : Bool) (a b x y : List Placed) → erased a ≡ erased x → erased b ≡ erased y → erased (cond c a b) ≡ erased (cond c x y)
both_erased true a b x y h k = h
both_erased false a b x y h k = k

anywhere : (left a b : ℕ) (bs : List ℕ) → erased (tokens_from left a bs) ≡ erased (tokens_from left b bs)
unfolding tokens_from
anywhere left a b [] = refl
anywhere zero a b (x ∷ xs) =
    both_erased (is_blank x) _ _ _ _ (anywhere 0 (a + 1) (b + 1) xs) (ap (λ l. (token_at (x ∷ xs)).0 ∷ l) (anywhere (length xs - length (token_at (x ∷ xs)).1) (a + 1) (b + 1) xs))
anywhere (suc n) a b (x ∷ xs) = anywhere n (a + 1) (b + 1) xs

next : (bs : List ℕ) (t : Token) (rest : List ℕ) → Starts bs → token_at bs ≡ (t, rest) → spelled bs ≡ t ∷ spelled rest
next [] t rest s e = absurd s
next (x ∷ xs) t rest s e =
    ap erased (token_next x xs 0 s) ∙ ap₂ (λ u l. u ∷ l) (ap (λ r. r.0) e) (anywhere 0 (0 + (length (x ∷ xs) - length (token_at (x ∷ xs)).1)) 0 (token_at (x ∷ xs)).1 ∙ ap (λ r. spelled r.1) e)

at_begin_object : (xs : List ℕ) → spelled (123 ∷ xs) ≡ begin_object ∷ spelled xs
unfolding token_at
at_begin_object xs = next (123 ∷ xs) begin_object xs refl refl

at_end_object : (xs : List ℕ) → spelled (125 ∷ xs) ≡ end_object ∷ spelled xs
unfolding token_at
at_end_object xs = next (125 ∷ xs) end_object xs refl refl

at_begin_array : (xs : List ℕ) → spelled (91 ∷ xs) ≡ begin_array ∷ spelled xs
unfolding token_at
at_begin_array xs = next (91 ∷ xs) begin_array xs refl refl

at_end_array : (xs : List ℕ) → spelled (93 ∷ xs) ≡ end_array ∷ spelled xs
unfolding token_at
at_end_array xs = next (93 ∷ xs) end_array xs refl refl

at_name_separator : (xs : List ℕ) → spelled (58 ∷ xs) ≡ name_separator ∷ spelled xs
unfolding token_at
at_name_separator xs = next (58 ∷ xs) name_separator xs refl refl

at_value_separator : (xs : List ℕ) → spelled (44 ∷ xs) ≡ value_separator ∷ spelled xs
unfolding token_at
at_value_separator xs = next (44 ∷ xs) value_separator xs refl refl

at_string : (s rest : List ℕ) → spelled (string_text s ++ rest) ≡ string s ∷ spelled rest
unfolding token_at
at_string s rest = next (string_text s ++ rest) (string s) rest refl (ap (λ l. (token_at (34 ∷ l))) (append_assoc _ (34 ∷ []) rest) ∙ ap string_token (content_again s rest))

-- ---- what a word or a numeral stops at

abbrev Stops : List ℕ → Type 0
Stops rest = RunEnds is_numeral_byte rest × RunEnds is_letter rest

at_word : (w rest : List ℕ) (t : Token) → Starts (w ++ rest) → token_at (w ++ rest) ≡ (word_token (take (prefix_len is_letter (w ++ rest)) (w ++ rest)), drop (prefix_len is_letter (w ++ rest)) (w ++ rest))
    → list_all is_letter w ≡ true → word_token w ≡ t → RunEnds is_letter rest → spelled (w ++ rest) ≡ t ∷ spelled rest
at_word w rest t s e all is stops =
    next (w ++ rest) t rest s (e ∙ ap₂ (λ w r. (word_token w, r)) (run_front is_letter w rest all stops) (run_rest is_letter w rest all stops) ∙ ap (λ t. (t, rest)) is)

at_null : (rest : List ℕ) → Stops rest → spelled (110 ∷ 117 ∷ 108 ∷ 108 ∷ rest) ≡ null ∷ spelled rest
unfolding token_at
at_null rest s = at_word (110 ∷ 117 ∷ 108 ∷ 108 ∷ []) rest null refl refl refl refl s.1

at_boolean : (b : Bool) (rest : List ℕ) → Stops rest → spelled (boolean_text b ++ rest) ≡ boolean b ∷ spelled rest
unfolding token_at
at_boolean true rest s = at_word (boolean_text true) rest (boolean true) refl refl refl refl s.1
at_boolean false rest s = at_word (boolean_text false) rest (boolean false) refl refl refl refl s.1

at_number : (z : ℤ) (rest : List ℕ) → IsNumber z → Stops rest → spelled (number_text z ++ rest) ≡ number (Some z) ∷ spelled rest
at_number z rest h s = next (number_text z ++ rest) (number (Some z)) rest (number_starts z rest h) (number_again z rest h s.0)

-- ---- dates

minus_text : (k : ℕ) → 0 < k → number_text (neg_ℤ (pos k)) ≡ 45 ∷ magnitude_text k
minus_text zero h = absurd (omega arith)
minus_text (suc k) h = refl

whole_text : (n : ℕ) → magnitude_text (n * 10 ^ 18) ≡ decimal n
unfolding trimmed
whole_text n = ap₂ (λ a b. decimal a ++ with_point (trimmed 18 b)) (part_of n) (whole_of n) ∙ append-nil (decimal n)

signed_text : (n : ℤ) → signed_decimal n ≡ number_text (millis n)
signed_text (pos n) = sym (whole_text n)
signed_text (negsuc n) = sym (minus_text (suc n * 10 ^ 18) (omega arith) ∙ ap (λ l. 45 ∷ l) (whole_text (suc n)))

minus_num : (k : ℕ) → k < 10 ^ 38 → IsNumber (neg_ℤ (pos k))
minus_num zero h = h
minus_num (suc k) h = h

millis_num : (n : ℤ) → IsI64 n → IsNumber (millis n)
millis_num (pos n) h = omega arith
millis_num (negsuc n) h = minus_num (suc n * 10 ^ 18) (omega arith)

at_date : (n : ℤ) (rest : List ℕ) → IsI64 n → spelled (date_text n ++ rest) ≡ tokens_of (json_of (tree.date n)) ++ spelled rest
unfolding escaped
at_date n rest h =
    let after = (signed_decimal n ++ 125 ∷ []) ++ rest in
    let inside : spelled after ≡ number (Some (millis n)) ∷ end_object ∷ spelled rest =
    ap spelled (append_assoc (signed_decimal n) (125 ∷ []) rest ∙ ap (λ l. l ++ 125 ∷ rest) (signed_text n)) ∙ at_number (millis n) (125 ∷ rest) (millis_num n h) (refl, refl) ∙ ap (λ l. number (Some (millis n)) ∷ l) (at_end_object rest) in
    at_begin_object (string_text date_name ++ 58 ∷ after)
    ∙ ap (λ l. begin_object ∷ l) (at_string date_name (58 ∷ after) ∙ ap (λ l. string date_name ∷ l) (at_name_separator after ∙ ap (λ l. name_separator ∷ l) inside))

-- ---- values

stops_elements : (vs : Elements) (rest : List ℕ) → Stops rest → Stops (print.more_elements vs ++ rest)
stops_elements no_elements rest s = s
stops_elements (element v vs) rest s = (refl, refl)

stops_members : (ms : Members) (rest : List ℕ) → Stops rest → Stops (more_members ms ++ rest)
stops_members no_members rest s = s
stops_members (member n v ms) rest s = (refl, refl)

mutual
  lex_value : (v : Tree) → IsWritable v → (rest : List ℕ) → Stops rest → spelled (text_of v ++ rest) ≡ tokens_of (json_of v) ++ spelled rest
  lex_value tree.null w rest s = at_null rest s
  lex_value (tree.boolean b) w rest s = at_boolean b rest s
  lex_value (tree.number z) w rest s = at_number z rest w s
  lex_value (tree.text t) w rest s = at_string t rest
  lex_value (tree.date n) w rest s = at_date n rest w
  lex_value (tree.list vs) w rest s =
      at_begin_array ((elements_text vs ++ 93 ∷ []) ++ rest)
      ∙ ap (λ l. begin_array ∷ l)
      (ap spelled (append_assoc (elements_text vs) (93 ∷ []) rest) ∙ lex_elements vs w (93 ∷ rest) (refl, refl) ∙ ap (λ l. elements_tokens (elements_json vs) ++ l) (at_end_array rest) ∙ sym (append_assoc (elements_tokens (elements_json vs)) (end_array ∷ []) (spelled rest)))
  lex_value (tree.object ms) w rest s =
      at_begin_object ((members_text ms ++ 125 ∷ []) ++ rest)
      ∙ ap (λ l. begin_object ∷ l)
      (ap spelled (append_assoc (members_text ms) (125 ∷ []) rest) ∙ lex_members [] ms w.0 (125 ∷ rest) (refl, refl) ∙ ap (λ l. fields_tokens (fields_json ms) ++ l) (at_end_object rest) ∙ sym (append_assoc (fields_tokens (fields_json ms)) (end_object ∷ []) (spelled rest)))

  lex_elements : (vs : Elements) → AreWritable vs → (rest : List ℕ) → Stops rest → spelled (elements_text vs ++ rest) ≡ elements_tokens (elements_json vs) ++ spelled rest
  lex_elements no_elements w rest s = refl
  lex_elements (element v vs) w rest s =
      ap spelled (append_assoc (text_of v) (print.more_elements vs) rest)
      ∙ lex_value v w.0 (print.more_elements vs ++ rest) (stops_elements vs rest s)
      ∙ ap (λ l. tokens_of (json_of v) ++ l) (lex_more vs w.1 rest s)
      ∙ sym (append_assoc (tokens_of (json_of v)) (more_elements (elements_json vs)) (spelled rest))

  lex_more : (vs : Elements) → AreWritable vs → (rest : List ℕ) → Stops rest → spelled (print.more_elements vs ++ rest) ≡ more_elements (elements_json vs) ++ spelled rest
  lex_more no_elements w rest s = refl
  lex_more (element v vs) w rest s =
      at_value_separator ((text_of v ++ print.more_elements vs) ++ rest)
      ∙ ap (λ l. value_separator ∷ l)
      (ap spelled (append_assoc (text_of v) (print.more_elements vs) rest)
      ∙ lex_value v w.0 (print.more_elements vs ++ rest) (stops_elements vs rest s)
      ∙ ap (λ l. tokens_of (json_of v) ++ l) (lex_more vs w.1 rest s)
      ∙ sym (append_assoc (tokens_of (json_of v)) (more_elements (elements_json vs)) (spelled rest)))

  lex_members : (names : List (List ℕ)) (ms : Members) → MembersAreWritable names ms → (rest : List ℕ) → Stops rest → spelled (members_text ms ++ rest) ≡ fields_tokens (fields_json ms) ++ spelled rest
  lex_members names no_members w rest s = refl
  lex_members names (member n v ms) w rest s =
      ap spelled (append_assoc (string_text n) (58 ∷ (text_of v ++ more_members ms)) rest)
      ∙ at_string n (58 ∷ ((text_of v ++ more_members ms) ++ rest))
      ∙ ap (λ l. string n ∷ l)
      (at_name_separator ((text_of v ++ more_members ms) ++ rest)
      ∙ ap (λ l. name_separator ∷ l)
      (ap spelled (append_assoc (text_of v) (more_members ms) rest)
      ∙ lex_value v w.2 (more_members ms ++ rest) (stops_members ms rest s)
      ∙ ap (λ l. tokens_of (json_of v) ++ l) (lex_more_members (names ++ n ∷ []) ms w.3 rest s)
      ∙ sym (append_assoc (tokens_of (json_of v)) (more_fields (fields_json ms)) (spelled rest))))

  lex_more_members : (names : List (List ℕ)) (ms : Members) → MembersAreWritable names ms → (rest : List ℕ) → Stops rest → spelled (more_members ms ++ rest) ≡ more_fields (fields_json ms) ++ spelled rest
  lex_more_members names no_members w rest s = refl
  lex_more_members names (member n v ms) w rest s =
      at_value_separator ((string_text n ++ 58 ∷ (text_of v ++ more_members ms)) ++ rest)
      ∙ ap (λ l. value_separator ∷ l)
      (ap spelled (append_assoc (string_text n) (58 ∷ (text_of v ++ more_members ms)) rest)
      ∙ at_string n (58 ∷ ((text_of v ++ more_members ms) ++ rest))
      ∙ ap (λ l. string n ∷ l)
      (at_name_separator ((text_of v ++ more_members ms) ++ rest)
      ∙ ap (λ l. name_separator ∷ l)
      (ap spelled (append_assoc (text_of v) (more_members ms) rest)
      ∙ lex_value v w.2 (more_members ms ++ rest) (stops_members ms rest s)
      ∙ ap (λ l. tokens_of (json_of v) ++ l) (lex_more_members (names ++ n ∷ []) ms w.3 rest s)
      ∙ sym (append_assoc (tokens_of (json_of v)) (more_fields (fields_json ms)) (spelled rest)))))

-- ---- UTF-8

utf8-signed : (n : ℤ) → IsI64 n → IsUtf8 (signed_decimal n)
utf8-signed n h = subst IsUtf8 (sym (signed_text n)) (utf8-numeral (number_text (millis n)) (all_number (millis n) (millis_num n h)))

utf8-boolean : (b : Bool) → IsUtf8 (boolean_text b)
utf8-boolean true = utf8-ascii (boolean_text true) refl
utf8-boolean false = utf8-ascii (boolean_text false) refl

utf8-one : (x : ℕ) (xs : List ℕ) → are_ascii (x ∷ []) ≡ true → IsUtf8 xs → IsUtf8 (x ∷ xs)
utf8-one x xs h u = IsUtf8-append (x ∷ []) xs (utf8-ascii (x ∷ []) h) u

utf8-last : (x : ℕ) (xs : List ℕ) → are_ascii (x ∷ []) ≡ true → IsUtf8 xs → IsUtf8 (xs ++ x ∷ [])
utf8-last x xs h u = IsUtf8-append xs (x ∷ []) u (utf8-ascii (x ∷ []) h)

utf8_member : (n v more : List ℕ) → IsUtf8 n → IsUtf8 v → IsUtf8 more → IsUtf8 (string_text n ++ 58 ∷ (v ++ more))
utf8_member n v more a b c = IsUtf8-append (string_text n) (58 ∷ (v ++ more)) (utf8-string n a) (utf8-one 58 (v ++ more) refl (IsUtf8-append v more b c))

mutual
  pub utf8_value : (v : Tree) → IsValue v → IsUtf8 (text_of v)
  utf8_value tree.null w = utf8-ascii (text_of tree.null) refl
  utf8_value (tree.boolean b) w = utf8-boolean b
  utf8_value (tree.number z) w = utf8-numeral (number_text z) (all_number z w)
  utf8_value (tree.text t) w = utf8-string t w
  utf8_value (tree.date n) w = IsUtf8-append (123 ∷ 34 ∷ 36 ∷ 100 ∷ 97 ∷ 116 ∷ 101 ∷ 34 ∷ 58 ∷ []) (signed_decimal n ++ 125 ∷ []) (utf8-ascii _ refl) (utf8-last 125 (signed_decimal n) refl (utf8-signed n w))
  utf8_value (tree.list vs) w = utf8-one 91 (elements_text vs ++ 93 ∷ []) refl (utf8-last 93 (elements_text vs) refl (utf8_elements vs w))
  utf8_value (tree.object ms) w = utf8-one 123 (members_text ms ++ 125 ∷ []) refl (utf8-last 125 (members_text ms) refl (utf8_members ms w.1))

  utf8_elements : (vs : Elements) → AreValues vs → IsUtf8 (elements_text vs)
  utf8_elements no_elements w = utf8-ascii [] refl
  utf8_elements (element v vs) w = IsUtf8-append (text_of v) (print.more_elements vs) (utf8_value v w.0) (utf8_more vs w.1)

  utf8_more : (vs : Elements) → AreValues vs → IsUtf8 (print.more_elements vs)
  utf8_more no_elements w = utf8-ascii [] refl
  utf8_more (element v vs) w = utf8-one 44 (text_of v ++ print.more_elements vs) refl (IsUtf8-append (text_of v) (print.more_elements vs) (utf8_value v w.0) (utf8_more vs w.1))

  utf8_members : (ms : Members) → MembersAreValues ms → IsUtf8 (members_text ms)
  utf8_members no_members w = utf8-ascii [] refl
  utf8_members (member n v ms) w = utf8_member n (text_of v) (more_members ms) w.0 (utf8_value v w.1) (utf8_more_members ms w.2)

  utf8_more_members : (ms : Members) → MembersAreValues ms → IsUtf8 (more_members ms)
  utf8_more_members no_members w = utf8-ascii [] refl
  utf8_more_members (member n v ms) w =
      utf8-one 44 (string_text n ++ 58 ∷ (text_of v ++ more_members ms)) refl (utf8_member n (text_of v) (more_members ms) w.0 (utf8_value v w.1) (utf8_more_members ms w.2))

pub ruleset utf8_texts = (utf8_value)

-- ---- the whole text

pub reads_back : (v : Tree) → IsWritable v → tree_levels v ≤ 32 → Reads (text_of v) v
unfolding tokens_from
reads_back v w low = (
  json_of v,
  record {
    utf8 = utf8_value v (writable_value v w);
    text = ap spelled (sym (append-nil (text_of v))) ∙ lex_value v w [] (tt, tt);
    levels = omega (arith, same_levels v);
    numbers = all_numbers v;
    value = tree_again v w;
  },
)

-- the tokens of a value's text are its own
pub text_spells : (v : Tree) → IsWritable v → spelled (text_of v) ≡ text_tokens (json_of v)
unfolding tokens_from
text_spells v w = ap spelled (sym (append-nil (text_of v))) ∙ lex_value v w [] (tt, tt)
