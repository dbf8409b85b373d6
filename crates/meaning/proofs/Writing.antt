-- A file that was written reads as what was given, since two bytes give back the number that they were made of; and the file of what a table
-- holds is the table, since the bytes made of a number that was read are the two that stood there.
use mathlib.Core.Path.{◌≡◌, refl, sym as inv, ap, ap₂, ◌∙◌}
use mathlib.Core.List.{List, [], ◌∷◌, ◌++◌, append_assoc, append-nil}
use mathlib.Core.Option.{none}
use Prim.Native.Nat.{ℕ, zero, suc, ◌+◌, ◌*◌, ◌/◌, ◌%◌, ◌≤◌, ◌<◌}
use native.Mathlib.Numerals.{add-one}
use native.Mathlib.Omega.{arith}
use lib.Seq.{get_or-append-add, take_at, drop-cons, drop-drop, drop-length}
use lib.ListN.{length, get_or, take, drop, length-append, length-take, length-drop, take-append-drop}
use Rattle.theory.specs.Least.{All}
use Rattle.theory.specs.Pairs.{Pair, pair, SoundPair}
use Rattle.theory.proofs.Lemmas.{all_append, all_get_d}
use Rattle.meaning.specs.Limits.{most_symbols, most_pairs}
use Rattle.meaning.specs.File.{number, symbol_count_lem, pair_count_lem, pairs_at_lem, total, arities_in, pair_at, pairs_from, pairs_in, bytes_of, header, pair_bytes, pairs_bytes, file_of}
use Rattle.meaning.specs.Refusals.{first, table_rows, row1_short, row1_offsets, row2, row3, row4, row8-output, SoundFile}
use Rattle.meaning.specs.Calls.{writer_rows}
use Rattle.meaning.specs.Tables.{Bytes}
use Rattle.meaning.proofs.First.{Silent, all_silent, silent_first}
use Rattle.meaning.proofs.Sound.{length-pairs_from, Offsets, passed, all_of, counts_inside, low_arities, sound_pairs_lem}
use Rattle.meaning.proofs.Silent.{silent_short, silent_offsets}

-- what was written are bytes, and a table with these arities and pairs
pub record ReadWritten (arities : List ℕ) (pairs : List Pair) : Type 0 where
  pub bytes : Bytes (file_of arities pairs)
  pub is_table_lem-is : SoundFile (file_of arities pairs)
  pub same_arities : arities_in (file_of arities pairs) ≡ arities
  pub same_pairs : pairs_in (file_of arities pairs) ≡ pairs

-- ---- numbers and bytes

digits : (n : ℕ) → n % 256 + n / 256 * 256 ≡ n
digits n = omega arith

-- a number behind other bytes
number_after : (pre ys : List ℕ) (n : ℕ) → number (pre ++ ys) (length pre + n) ≡ number ys n
number_after pre ys n =
    let i : length pre + n + 1 ≡ length pre + (n + 1) = omega arith in
    ap₂ (λ a b. a + b * 256) (get_or-append-add pre ys n 0) (ap (λ i. get_or (pre ++ ys) i 0) i ∙ get_or-append-add pre ys (n + 1) 0)

-- ---- the lists that a written file holds

pair_after : (pre : List ℕ) (l h d : ℕ) (rest : List ℕ) (i : ℕ) → length pre ≡ i → pair_at (pre ++ (pair_bytes (pair l h d) ++ rest)) i ≡ pair l h d
pair_after pre l h d rest i e =
    let ys = pair_bytes (pair l h d) ++ rest in
    let a : number (pre ++ ys) i ≡ l = ap (number (pre ++ ys)) (omega arith) ∙ number_after pre ys 0 ∙ digits l in
    let b : number (pre ++ ys) (i + 2) ≡ h = ap (number (pre ++ ys)) (omega arith) ∙ number_after pre ys 2 ∙ digits h in
    let c : number (pre ++ ys) (i + 4) ≡ d = ap (number (pre ++ ys)) (omega arith) ∙ number_after pre ys 4 ∙ digits d in
    rw (a, b, c)

pairs_after : (ps : List Pair) (pre : List ℕ) (i : ℕ) → length pre ≡ i → pairs_from (pre ++ pairs_bytes ps) i (length ps) ≡ ps
pairs_after [] pre i e = refl
pairs_after (pair l h d ∷ ps) pre i e =
    ap₂ ◌∷◌ (pair_after pre l h d (pairs_bytes ps) i e)
    (ap (λ f. pairs_from f (i + 6) (length ps)) (inv (append_assoc pre (pair_bytes (pair l h d)) (pairs_bytes ps)))
    ∙ pairs_after ps (pre ++ pair_bytes (pair l h d)) (i + 6) (omega (arith, length-append pre (pair_bytes (pair l h d)))))

pub length-pairs_bytes : (ps : List Pair) → length (pairs_bytes ps) ≡ 6 * length ps
length-pairs_bytes [] = refl
length-pairs_bytes (pair l h d ∷ ps) = omega (arith, length-pairs_bytes ps)

module _ (arities : List ℕ) (pairs : List Pair) where
  abbrev file : List ℕ
  file = file_of arities pairs

  count_is : symbol_count_lem file ≡ length arities
  unfolding file_of
  count_is = digits (length arities)

  pairs_is : pair_count_lem file ≡ length pairs
  unfolding file_of
  pairs_is = digits (length pairs)

  arities_back : arities_in file ≡ arities
  unfolding file_of arities_in
  arities_back = ap (λ n. take n (arities ++ pairs_bytes pairs)) (digits (length arities)) ∙ take_at arities (pairs_bytes pairs) (length arities) refl

  pairs_back : pairs_in file ≡ pairs
  unfolding file_of pairs_in
  pairs_back =
      let pre = header (length arities) (length pairs) ++ arities in
      ap₂ (λ s p. pairs_from file (pairs_at_lem s) p) (digits (length arities)) (digits (length pairs))
      ∙ pairs_after pairs pre (pairs_at_lem (length arities)) (omega (arith, length-append (header (length arities) (length pairs)) arities))

  pub length_file : length file ≡ total (length arities) (length pairs)
  unfolding file_of
  length_file = omega (arith, length-append arities (pairs_bytes pairs), length-pairs_bytes pairs)

-- ---- what is written are bytes

two_bytes : (n : ℕ) → n < 65536 → Bytes (bytes_of n)
two_bytes n l = (omega arith, (omega arith, tt))

pairs_bytes_lem : (arities : List ℕ) → length arities ≤ most_symbols → (ps : List Pair) → All (SoundPair arities) ps → Bytes (pairs_bytes ps)
pairs_bytes_lem arities b [] s = tt
pairs_bytes_lem arities b (pair l h d ∷ ps) s =
    let x = two_bytes l (omega (arith, s.0.0, s.0.1)) in
    let y = two_bytes h (omega (arith, s.0.1)) in
    let z = two_bytes d (omega (arith, s.0.4)) in
    (x.0, (x.1.0, (y.0, (y.1.0, (z.0, (z.1.0, pairs_bytes_lem arities b ps s.1))))))

module _ (arities : List ℕ) (pairs : List Pair) (output : List ℕ) (e : first (writer_rows arities pairs output) ≡ none) where
  silent : All Silent (row2 (length arities) (length pairs) ∷ row3 arities ∷ row4 arities pairs ∷ row8-output (total (length arities) (length pairs)) output ∷ [])
  unfolding writer_rows
  silent = all_silent (writer_rows arities pairs output) e

  counts : (1 ≤ length arities) × (length arities ≤ most_symbols) × (length pairs ≤ most_pairs)
  counts = counts_inside (length arities) (length pairs) silent.0

  arity_bytes : Bytes arities
  arity_bytes = all_of (λ b. b < 256) arities 0 (λ a l. omega (arith, low_arities arities silent.1.0 a l))

  header_bytes : Bytes (header (length arities) (length pairs))
  header_bytes =
      let a = two_bytes (length arities) (omega (arith, counts)) in
      let b = two_bytes (length pairs) (omega (arith, counts)) in
      let c = two_bytes (pairs_at_lem (length arities)) (omega (arith, counts)) in
      let d = two_bytes (total (length arities) (length pairs)) (omega (arith, counts)) in
      (a.0, (a.1.0, (b.0, (b.1.0, (omega arith, (omega arith, (c.0, (c.1.0, (d.0, (d.1.0, tt))))))))))

  -- LAW: what the writer's rows let pass is written as a table
  pub read_back : ReadWritten arities pairs
  unfolding file_of table_rows
  read_back =
      record {
        bytes =
            all_append (λ b. b < 256) (header (length arities) (length pairs)) (arities ++ pairs_bytes pairs) header_bytes
            (all_append (λ b. b < 256) arities (pairs_bytes pairs) arity_bytes (pairs_bytes_lem arities counts.1 pairs (sound_pairs_lem arities pairs silent.1.1.0)));
        is_table_lem-is = silent_first (table_rows (file_of arities pairs)) (short, (again, (off, (rw (arities_back arities pairs) silent.1.0, (rw (arities_back arities pairs, pairs_back arities pairs) silent.1.1.0, tt)))));
        same_arities = arities_back arities pairs;
        same_pairs = pairs_back arities pairs;
      }
    where
      f : List ℕ
      f = file_of arities pairs

      short : Silent (row1_short f)
      short = silent_short f (omega (arith, length_file arities pairs))

      again : Silent (row2 (symbol_count_lem f) (pair_count_lem f))
      again = rw (count_is arities pairs, pairs_is arities pairs) silent.0

      off : Silent (row1_offsets f)
      off =
          silent_offsets f
          (record {
            of_arities = refl;
            of_pairs = digits (pairs_at_lem (length arities)) ∙ ap pairs_at_lem (inv (count_is arities pairs));
            of_total = digits (total (length arities) (length pairs)) ∙ ap₂ total (inv (count_is arities pairs)) (inv (pairs_is arities pairs));
            of_length = digits (total (length arities) (length pairs)) ∙ inv (length_file arities pairs);
          })

-- ---- the file of what was read

module _ (t : List ℕ) (bytes : Bytes t) where
  -- the two bytes of a number
  number_bytes : (i : ℕ) → i + 2 ≤ length t → drop i t ≡ bytes_of (number t i) ++ drop (i + 2) t
  number_bytes i l =
      let b : get_or t i 0 < 256 = all_get_d (λ b. b < 256) t i 0 (omega arith) bytes in
      let low : number t i % 256 ≡ get_or t i 0 = omega arith in
      let high : number t i / 256 ≡ get_or t (i + 1) 0 = omega arith in
      let on : suc (i + 1) ≡ i + 2 = omega arith in
      drop-cons t i 0 (omega arith)
      ∙ ap (λ l. get_or t i 0 ∷ l) (ap (λ k. drop k t) (inv (add-one i)) ∙ drop-cons t (i + 1) 0 (omega arith))
      ∙ ap₂ (λ a l. a ∷ l) (inv low) (ap₂ (λ a k. a ∷ drop k t) (inv high) on)

  pair_bytes_lem : (i : ℕ) → i + 6 ≤ length t → drop i t ≡ pair_bytes (pair_at t i) ++ drop (i + 6) t
  pair_bytes_lem i l =
      let four : i + 2 + 2 ≡ i + 4 = omega arith in
      let six : i + 4 + 2 ≡ i + 6 = omega arith in
      number_bytes i (omega arith)
      ∙ ap (λ r. bytes_of (number t i) ++ r)
      (number_bytes (i + 2) (omega arith)
      ∙ ap (λ r. bytes_of (number t (i + 2)) ++ r)
      (ap (λ k. drop k t) four ∙ number_bytes (i + 4) (omega arith) ∙ ap (λ k. bytes_of (number t (i + 4)) ++ drop k t) six))

  pairs_read : (n i : ℕ) → i + 6 * n ≤ length t → drop i t ≡ pairs_bytes (pairs_from t i n) ++ drop (i + 6 * n) t
  pairs_read zero i l = let e : i ≡ i + 6 * 0 = omega arith in ap (λ k. drop k t) e
  pairs_read (suc n) i l =
      let e : i + 6 + 6 * n ≡ i + 6 * suc n = omega arith in
      pair_bytes_lem i (omega arith)
      ∙ ap (λ r. pair_bytes (pair_at t i) ++ r)
      (pairs_read n (i + 6) (omega arith) ∙ ap (λ k. pairs_bytes (pairs_from t (i + 6) n) ++ drop k t) e)

  header_read : 10 ≤ length t → Offsets t → header (symbol_count_lem t) (pair_count_lem t) ++ drop 10 t ≡ t
  header_read l o =
      let s = symbol_count_lem t in
      let p = pair_count_lem t in
      ap (λ n. bytes_of s ++ (bytes_of p ++ (bytes_of n ++ (bytes_of (pairs_at_lem s) ++ (bytes_of (total s p) ++ drop 10 t))))) (inv o.of_arities)
      ∙ ap (λ n. bytes_of s ++ (bytes_of p ++ (bytes_of (number t 4) ++ (bytes_of n ++ (bytes_of (total s p) ++ drop 10 t))))) (inv o.of_pairs)
      ∙ ap (λ n. bytes_of s ++ (bytes_of p ++ (bytes_of (number t 4) ++ (bytes_of (number t 6) ++ (bytes_of n ++ drop 10 t))))) (inv o.of_total)
      ∙ ap (λ r. bytes_of s ++ (bytes_of p ++ (bytes_of (number t 4) ++ (bytes_of (number t 6) ++ r)))) (inv (number_bytes 8 (omega arith)))
      ∙ ap (λ r. bytes_of s ++ (bytes_of p ++ (bytes_of (number t 4) ++ r))) (inv (number_bytes 6 (omega arith)))
      ∙ ap (λ r. bytes_of s ++ (bytes_of p ++ r)) (inv (number_bytes 4 (omega arith)))
      ∙ ap (λ r. bytes_of s ++ r) (inv (number_bytes 2 (omega arith)))
      ∙ inv (number_bytes 0 (omega arith))

  -- LAW: a table is the file of what it holds
  pub write_back : SoundFile t → file_of (arities_in t) (pairs_in t) ≡ t
  unfolding file_of arities_in pairs_in
  write_back e =
      let q = passed t e in
      let s = symbol_count_lem t in
      let p = pair_count_lem t in
      let n : length (take s (drop 10 t)) ≡ s = omega (arith, length-take s (drop 10 t), length-drop 10 t, q.length_is) in
      let m : length (pairs_from t (pairs_at_lem s) p) ≡ p = length-pairs_from t p (pairs_at_lem s) in
      let end : drop (pairs_at_lem s + 6 * p) t ≡ [] = ap (λ k. drop k t) (inv q.length_is) ∙ drop-length t in
      ap₂ (λ a b. header a b ++ (take s (drop 10 t) ++ pairs_bytes (pairs_from t (pairs_at_lem s) p))) n m
      ∙ ap (λ r. header s p ++ (take s (drop 10 t) ++ r))
      (inv (append-nil (pairs_bytes (pairs_from t (pairs_at_lem s) p))) ∙ ap (λ r. pairs_bytes (pairs_from t (pairs_at_lem s) p) ++ r) (inv end) ∙ inv (pairs_read p (pairs_at_lem s) (omega (arith, q.length_is))))
      ∙ ap (λ r. header s p ++ (take s (drop 10 t) ++ r)) (inv (drop-drop s 10 t))
      ∙ ap (λ r. header s p ++ r) (take-append-drop s (drop 10 t))
      ∙ header_read q.long q.placed
