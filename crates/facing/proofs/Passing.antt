-- The loop along a pattern and a heading, with what it has found of the faces that it has passed: none clashes, the least degree, the notes.
-- Each step passes one face more, and at the pattern's end all are passed.
use mathlib.Core.Path.{◌≡◌, refl, sym as inv, ap, ◌∙◌}
use mathlib.Core.List.{List, [], ◌∷◌, ◌++◌}
use mathlib.Core.Bool.{true, false}
use mathlib.Core.Option.{none, some as just}
use Prim.Native.Nat.{ℕ, ◌+◌, ◌*◌, ◌-◌, ◌≤◌, ◌<◌, min}
use native.Mathlib.Omega.{arith}
use lib.ListN.{length, get_or}
use Rattle.theory.specs.Table.{Table}
use Rattle.theory.specs.Faces.{Face, meets, binds}
use Rattle.theory.specs.Least.{least}
use Rattle.theory.specs.Match.{clash, size}
use Rattle.theory.specs.Read.{ends, walk, reading, whole}
use Rattle.theory.specs.Stands.{put_note_lem, Noted}
use Rattle.theory.proofs.Along.{Readable, all_faces, variable_at, Along, along_start, along_symbol, along_variable, along_end, along_clash, clear_next}
use Rattle.theory.proofs.Noted.{noted_start, noted_symbol, noted_variable}
use Rattle.meaning.specs.File.{table_in}
use Rattle.meaning.specs.Refusals.{SoundFile}
use Rattle.meaning.specs.Search.{symbol_worth}
use Rattle.meaning.proofs.Sound.{sound}
use Rattle.meaning.proofs.Parts.{is_term_lem}
use Rattle.meaning.proofs.Rated.{least_last, symbols_variable}
use Rattle.table.specs.declared.sound_table.SoundTable.{SoundTable}
use Rattle.terms.specs.declared.asked.Asked.{Asked}
use Rattle.terms.specs.Kinds.{kind_of}
use Rattle.terms.specs.declared.kind.Kind.TheVariants.{Neither}
use Rattle.terms.proofs.Nodes.{neither_kind}
use Rattle.terms.specs.Ends.{EndsIn}

-- ---- lists that are read over a table

-- LAW: a pattern and a heading that are read over a file's table can be gone along
pub readable : (table xs ys : List ℕ) → SoundFile table → reading (table_in table) true xs ≡ whole → reading (table_in table) false ys ≡ whole
    → Readable (table_in table) xs ys
readable table xs ys s p h = let t = sound table s in record { lawful = t.lawful; small = omega (arith, t.small); pattern_reads = p; heading_reads = h }

-- LAW: .. over a table that was tested
pub reads : (t : SoundTable) {xs ys : List ℕ} → reading (table_in t.file.now) true xs ≡ whole → reading (table_in t.file.now) false ys ≡ whole → Readable (table_in t.file.now) xs ys
reads t {xs} {ys} p h = readable t.file.now xs ys t.sound p h

-- LAW: .. so can those that a match is asked about
pub readable_asked : (a : Asked) → Readable (table_in a.table.file.now) a.pattern.now a.heading.now
readable_asked a = readable a.table.file.now a.pattern.now a.heading.now a.table.sound a.pattern_reads a.heading_reads

-- LAW: the heading has few nodes
pub few_nodes : {T : Table} {xs ys : List ℕ} → Readable T xs ys → length ys ≤ 1024
few_nodes {T} {xs} {ys} r = ((is_term_lem T r.small false ys).0 r.heading_reads).1.nodes_at_most

-- ---- where the loop stands

-- at index i of the pattern's list and at index j of the heading's, with what it has found
pub record Passing (T : Table) (cut : ℕ) (xs ys notes : List ℕ) (lowest j i : ℕ) : Type 0 where
  pub done : List Face
  pub along : Along T xs ys done i j
  pub clear : clash T cut done ≡ none
  pub lowest_is : lowest ≡ least (symbol_worth T) done
  pub noted : Noted ys notes done

module _ {T : Table} {xs ys : List ℕ} (r : Readable T xs ys) (cut : ℕ) where
  pub passing_start : (notes : List ℕ) → Passing T cut xs ys notes 1000 0 0
  passing_start notes = record { done = []; along = along_start r; clear = refl; lowest_is = refl; noted = noted_start ys notes }

  module _ {notes : List ℕ} {lowest j i : ℕ} (p : Passing T cut xs ys notes lowest j i) where
    -- LAW: at the pattern's end all faces are passed
    pub passing_end : length xs ≤ i
        → (clash T cut (all_faces T xs ys) ≡ none) × (lowest ≡ least (symbol_worth T) (all_faces T xs ys)) × Noted ys notes (all_faces T xs ys)
    passing_end l = rw (← along_end r p.along l) (p.clear, p.lowest_is, p.noted)

    -- LAW: at each node before stands a symbol or a variable
    pub passing_kinds : i < length xs → kind_of T.size (get_or xs i 0) ≡ Neither → ⊥
    passing_kinds l e =
        let n = neither_kind T.size (get_or xs i 0) e in
        let v = along_variable r p.along l n.0 in
        n.1 (omega (arith, v.variable)) (omega (arith, v.variable, v.below))

    -- ---- at a symbol

    module _ (l : i < length xs) (m : get_or xs i 0 < T.size) where
      -- LAW: it faces a symbol
      pub symbol_faces : (j < length ys) × (get_or ys j 0 < T.size)
      symbol_faces = let s = along_symbol r p.along l m in (s.inside, s.symbol)

      -- LAW: below the cut it is the clash
      pub passing_clash : T.deg (get_or xs i 0) (get_or ys j 0) < cut → clash T cut (all_faces T xs ys) ≡ just i
      passing_clash b = along_clash r p.along l m cut p.clear b

      -- LAW: else it is passed
      pub passing_symbol : 0 < cut → cut ≤ T.deg (get_or xs i 0) (get_or ys j 0)
          → Passing T cut xs ys notes (min lowest (T.deg (get_or xs i 0) (get_or ys j 0))) (j + 1) (i + 1)
      passing_symbol pos n =
          let x = meets (get_or xs i 0) (get_or ys j 0) in
          record {
            done = p.done ++ (x ∷ []);
            along = (along_symbol r p.along l m).on (omega arith);
            clear = clear_next T cut p.done x p.clear n;
            lowest_is = ap (λ d. min d (symbol_worth T x)) p.lowest_is ∙ inv (least_last (symbol_worth T) p.done x);
            noted = noted_symbol p.noted (get_or xs i 0) (get_or ys j 0);
          }

    -- ---- at a variable

    module _ (l : i < length xs) (m : T.size ≤ get_or xs i 0) where
      -- LAW: it faces a subterm
      pub variable_faces : EndsIn T true ys j
      variable_faces =
          let a = along_variable r p.along l m in
          record { end = j + size a.subterm; walked = a.ends_there true 64 (omega arith); after = omega (arith, a.some); inside = a.inside }

      -- LAW: with a note of the subterm, which ends there, it is passed
      pub passing_variable : (end : ℕ) → walk T true ys 64 j ≡ ends end → 2 * i + 1 < length notes
          → Passing T cut xs ys (put_note_lem notes i j (end - j)) lowest end (i + 1)
      passing_variable end walked room =
          let a = along_variable r p.along l m in
          let t = a.subterm in
          let v = variable_at xs i in
          let there = a.ends_there true 64 (omega arith) in
          let q : end ≡ j + size t = cc (walked, there) in
          let n : end - j ≡ size t = omega arith in
          record {
            done = p.done ++ (binds v t ∷ []);
            along = rw q a.on;
            clear = clear_next T cut p.done (binds v t) p.clear tt;
            lowest_is = p.lowest_is ∙ inv (symbols_variable T p.done v t);
            noted = noted_variable p.noted i j (end - j) v t p.along.passed.many room (rw n (record { nodes = refl; inside = a.inside; is = a.here }));
          }
