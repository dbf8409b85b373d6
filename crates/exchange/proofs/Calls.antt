-- The call's answer and its output, by what was found.
use mathlib.Core.Path.{◌≡◌, subst, ◌∙◌}
use Rattle.std.specs.Prelude.{Result, Ok, Err}
use Rattle.std.specs.Result.{IsErrAnd}
use mathlib.Core.List.{List, [], ◌∷◌, ◌++◌}
use mathlib.Core.Option.{none, some as just}
use Prim.Native.Nat.{ℕ, ◌≤◌, ◌<◌}
use borrow.Author.Tests.{lt-ltb, le-ltb}
use lib.ListN.{length, drop}
use Rattle.meaning.specs.Refusals.{refusal, row, first, row8-output}
use Rattle.marc.specs.Known.{Known, known_in, row19}
use Rattle.marc.specs.Heading.{heading_rows, heading_of, headed, later_nodes}
use Rattle.known_strings.specs.Checks.{CheckedAs}
use Rattle.known_strings.specs.declared.tested.Tested.{Tested}
use Rattle.exchange.specs.Said.{told}
use Rattle.exchange.specs.Looking.{record_rows, RecordLooks}
use Rattle.exchange.specs.Heading.{ReadHeading}
use Rattle.exchange.specs.declared.Fault.{Fault}

-- LAW: what holds of the list that was tested holds of each that the test's answer is on
pub by_list : (t : Tested) (P : List ℕ → List ℕ → List ℕ → ℕ → Type 0) → P t.known.text.now t.known.ends.now t.known.numbers.now t.absent
    → (text ends numbers : List ℕ) (absent : ℕ) → CheckedAs text ends numbers absent (Ok t) → P text ends numbers absent
by_list t P p text ends numbers absent h =
    subst (P text ends numbers) h.3 (subst (λ n. P text ends n t.absent) h.2 (subst (λ e. P text e t.known.numbers.now t.absent) h.1 (subst (λ x. P x t.known.ends.now t.known.numbers.now t.absent) h.0 p)))

module _ (bytes text ends numbers : List ℕ) (heading absent : ℕ) (nodes : List ℕ) where
  abbrev ks : List Known
  ks = known_in text ends numbers

  -- LAW: a refusal that the rows give is the answer, and leaves the output
  pub refuses : (why fault : Fault) (r : Result (Unit {0}) Fault) → IsErrAnd r (λ e. e ≡ why) → why ≡ fault → first (heading_rows bytes ks heading absent nodes) ≡ just (told fault)
      → ReadHeading bytes text ends numbers heading absent nodes r nodes
  unfolding headed later_nodes
  refuses why fault (Ok done) p is e = absurd p
  refuses why fault (Err x) p is e = rw (p, is) (record { answers = rw e; leaves = rw e })

  -- LAW: 19
  pub bad_list : (entry : ℕ) → row19 ks absent ≡ row 19 (just entry) → first (heading_rows bytes ks heading absent nodes) ≡ just (refusal 19 entry)
  unfolding heading_rows
  bad_list entry e = rw e

  module _ (list_fine : row19 ks absent ≡ row 19 none) where
    -- LAW: 8
    pub no_room : length nodes < 3 → first (heading_rows bytes ks heading absent nodes) ≡ just (refusal 8 0)
    unfolding heading_rows row8-output
    no_room l = rw (list_fine, lt-ltb (length nodes) 3 l)

    module _ (room : 3 ≤ length nodes) where
      -- LAW: then the rows of the record
      pub rows_left : first (heading_rows bytes ks heading absent nodes) ≡ first (record_rows bytes ks)
      unfolding heading_rows row8-output record_rows
      rows_left = rw (list_fine, le-ltb (length nodes) 3 room)

      -- LAW: no row holds: the three nodes
      pub writes : (name dates : ℕ) → RecordLooks bytes ks absent (Ok (record { name = name; dates = dates }))
          → ReadHeading bytes text ends numbers heading absent nodes (Ok tt) ((heading ∷ name ∷ dates ∷ []) ++ drop 3 nodes)
      unfolding headed later_nodes heading_of
      writes name dates h =
          let e = rows_left ∙ h.0 in
          record { answers = rw e; leaves = go e }
        where
          go : first (heading_rows bytes ks heading absent nodes) ≡ none → (heading ∷ name ∷ dates ∷ []) ++ drop 3 nodes ≡ later_nodes bytes ks heading absent nodes
          go e = rw (e, h.1, h.2)
