-- Strings chained by their digests. The same bytes have the same digest, and the chain of a digest leaves out no string that has it: so a string that is not
-- on the chain of its digest is none of those chained. Blocks are sought one after the other, and an entry that is new to each is new.
use mathlib.Core.Path.{◌≡◌, refl, sym as inv, ap, ◌∙◌}
use mathlib.Core.List.{List}
use mathlib.Core.Bool.{Bool, true, false, false≢true}
use Prim.Native.Nat.{ℕ, ◌+◌, ◌*◌, ◌-◌, ◌%◌, ◌≤◌, ◌<◌}
use native.Mathlib.Decide.{dec_lt, ℕ_discrete}
use native.Mathlib.Omega.{arith}
use borrow.Author.Count.{below_none, below_more}
use borrow.Author.Tests.{eqb-true, eqb-false, eq-eqb, ne_eqb}
use lib.Dec.{eqb}
use lib.ListN.{length, get_or, set, drop, drop_of_length-le}
use lib.Seq.{get_or-set_same, get_or-set_other}
use Rattle.theory.specs.Least.{some, last_below}
use Rattle.theory.proofs.Lemmas.{or_left, some_of}
use Rattle.meaning.proofs.First.{Last, last_here, last_before, last_below_lem}
use Rattle.marc.specs.Known.{same}
use Rattle.marc.proofs.Strings.{none_of, left_is, not_same}
use Rattle.marc.proofs.Unfit.{some_below}
use Rattle.known_strings.specs.Lent.{string_in, listed_above, bad_in}
use Rattle.known_strings.specs.Chains.{digests, digest_from, digest_of, block_size, has_digest, like, Chained, ChainFrom, FineTo}

-- ---- digests

-- LAW: a byte more
pub digest_on : (string : List ℕ) (k sum : ℕ) → k < length string → digest_from sum (drop k string) ≡ digest_from ((sum * 31 + get_or string k 0) % digests) (drop (k + 1) string)
unfolding digest_from
digest_on string k sum l = ap (digest_from sum) (left_is string k l)

pub digest_ends : (string : List ℕ) (k sum : ℕ) → length string ≤ k → digest_from sum (drop k string) ≡ sum
unfolding digest_from
digest_ends string k sum l = ap (digest_from sum) (drop_of_length-le string l)

module _ (text ends : List ℕ) (from : ℕ) where
  -- one with another digest is not
  unlike : (string : List ℕ) (k : ℕ) → has_digest text ends from (digest_of string) k ≡ false → like text ends from string k ≡ false
  unlike string k e = not_same (string_in text ends (from + k)) string (λ q. eqb-false (digest_of (string_in text ends (from + k))) (digest_of string) e (ap digest_of q))

  -- ---- along a chain

  -- the walk stands at the string that `next` is 1 more than, or behind the chain: none that is later on is the string sought
  pub record WalkTo (head : ℕ) (string : List ℕ) (next : ℕ) : Type 0 where
    pub within : next ≤ head
    pub is : 0 < next → has_digest text ends from (digest_of string) (next - 1) ≡ true
    pub none : (k : ℕ) → next ≤ k → k < head → like text ends from string k ≡ false

  module _ (head : ℕ) (links string : List ℕ) (chain : ChainFrom text ends from head links string) where
    module _ (next : ℕ) (some : 0 < next) (at : WalkTo head string next) where
      -- the link leads to the last string before that has the digest
      link_is : get_or links (next - 1) 0 ≡ last_below (next - 1) (has_digest text ends from (digest_of string))
      link_is =
          chain.linked (next - 1) (omega (arith, at.within))
          ∙ ap (λ (d : ℕ). last_below (next - 1) (has_digest text ends from d)) (eqb-true _ _ (at.is some))

      last : Last (has_digest text ends from (digest_of string)) (next - 1) (get_or links (next - 1) 0)
      last = rw link_is (last_below_lem (has_digest text ends from (digest_of string)) (next - 1))

      -- LAW: the walk gets nearer to the chain's end
      pub walk_less : get_or links (next - 1) 0 < next
      walk_less = omega (arith, last.within)

      -- LAW: from a string that is not the one sought
      pub walk_on : like text ends from string (next - 1) ≡ false → WalkTo head string (get_or links (next - 1) 0)
      walk_on other =
          record {
            within = omega (arith, last.within, at.within);
            is = last.is;
            none = λ k l m. skipped k l m (dec_lt k (next - 1)) (dec_lt (next - 1) k);
          }
        where
          skipped : (k : ℕ) → get_or links (next - 1) 0 ≤ k → k < head → Dec (k < next - 1) → Dec (next - 1 < k) → like text ends from string k ≡ false
          skipped k l m (yes v) _ = unlike string k (last.none k l v)
          skipped k l m (no v) (yes w) = at.none k (omega arith) m
          skipped k l m (no v) (no w) = let q : k ≡ next - 1 = omega arith in ap (like text ends from string) q ∙ other

    -- LAW: behind the chain
    pub walk_end : WalkTo head string 0 → some head (like text ends from string) ≡ false
    walk_end at = none_of head (like text ends from string) (λ k l. at.none k (omega arith) l)

  -- ---- chains

  -- LAW: no string is chained where all heads are 0
  pub none_chained : (heads links : List ℕ) → ((d : ℕ) → get_or heads d 0 ≡ 0) → Chained text ends from 0 heads links
  unfolding last_below
  none_chained heads links empty = record { heads_are = λ d l. empty d; linked = below_none _ }

  module _ (n : ℕ) (heads links : List ℕ) (chained : Chained text ends from n heads links) (mark : ℕ) (small : mark < digests) where
    module _ (string : List ℕ) (mark_is : mark ≡ digest_of string) where
      head_is : Last (has_digest text ends from (digest_of string)) n (get_or heads mark 0)
      head_is = rw (chained.heads_are mark small, mark_is) (last_below_lem (has_digest text ends from (digest_of string)) n)

      -- LAW: the chain of a string's digest
      pub chain_of : from + n ≤ length ends → n ≤ block_size → ChainFrom text ends from (get_or heads mark 0) links string
      chain_of room few =
          record {
            within = omega (arith, head_is.within);
            block = omega (arith, head_is.within);
            is = head_is.is;
            linked = λ k l. chained.linked k (omega (arith, head_is.within));
          }

      pub chain_within : get_or heads mark 0 ≤ n
      chain_within = head_is.within

      -- LAW: a string that is not on it is none of those chained
      pub not_chained : some (get_or heads mark 0) (like text ends from string) ≡ false → (k : ℕ) → k < n → like text ends from string k ≡ false
      not_chained none k l = go (dec_lt k (get_or heads mark 0))
        where
          go : Dec (k < get_or heads mark 0) → like text ends from string k ≡ false
          go (yes v) = none_on (like text ends from string k) refl
            where
              none_on : (b : Bool) → like text ends from string k ≡ b → like text ends from string k ≡ false
              none_on true e = absurd (false≢true (inv none ∙ some_of (get_or heads mark 0) (like text ends from string) k v e))
              none_on false e = e
          go (no v) = unlike string k (head_is.none k (omega arith) l)

    -- LAW: one string more, linked to the head of its chain and then the head itself
    pub chained_next : mark ≡ digest_of (string_in text ends (from + n)) → mark < length heads → n < length links
        → Chained text ends from (n + 1) (set heads mark (n + 1)) (set links n (get_or heads mark 0))
    chained_next mark_is head-there link-there =
        record {
          heads_are = λ d l. at_head d l (ℕ_discrete mark d);
          linked = below_more _ n (λ k l. get_or-set_other links n k (get_or heads mark 0) 0 (λ e. omega arith) ∙ chained.linked k l) at_link;
        }
      where
        at_head : (d : ℕ) → d < digests → Dec (mark ≡ d) → get_or (set heads mark (n + 1)) d 0 ≡ last_below (n + 1) (has_digest text ends from d)
        at_head d l (yes e) =
            ap (λ (i : ℕ). get_or (set heads mark (n + 1)) i 0) (inv e)
            ∙ get_or-set_same heads mark (n + 1) 0 head-there
            ∙ inv (last_here (has_digest text ends from d) n (eq-eqb _ _ (inv mark_is ∙ e)))
        at_head d l (no m) =
            get_or-set_other heads mark d (n + 1) 0 (λ e. m (inv e))
            ∙ chained.heads_are d l
            ∙ inv (last_before (has_digest text ends from d) n (ne_eqb _ _ (λ e. m (mark_is ∙ e))))

        at_link : get_or (set links n (get_or heads mark 0)) n 0 ≡ last_below n (has_digest text ends from (digest_of (string_in text ends (from + n))))
        at_link =
            get_or-set_same links n (get_or heads mark 0) 0 link-there
            ∙ chained.heads_are mark small
            ∙ ap (λ (d : ℕ). last_below n (has_digest text ends from d)) mark_is

  -- LAW: a string on the chain stands before, in an earlier entry
  pub was_before : (j n : ℕ) → from + n ≤ j → some n (like text ends from (string_in text ends j)) ≡ true → listed_above text ends j ≡ true
  was_before j n before found =
      let one = some_below n (like text ends from (string_in text ends j)) found in
      some_of j (λ i. same (string_in text ends i) (string_in text ends j)) (from + one.0) (omega (arith, one.1)) one.2

-- ---- entries gone over

module _ (text ends numbers : List ℕ) (absent : ℕ) where
  -- LAW: none
  pub fine_none : (from upto : ℕ) → FineTo text ends numbers absent from upto from
  fine_none from upto = record { numbered = λ j l m. absurd (omega arith); new = λ j i m l k u. absurd (omega arith) }

  -- LAW: one more, whose number is another and whose string is none of those before it
  pub fine_next : (from upto j : ℕ) → FineTo text ends numbers absent from upto j → eqb (get_or numbers j 0) absent ≡ false
      → ((i : ℕ) → from ≤ i → i < j → i < upto → same (string_in text ends i) (string_in text ends j) ≡ false) → FineTo text ends numbers absent from upto (j + 1)
  fine_next from upto j fine number string =
      record {
        numbered = λ k l m. go_number k l (dec_lt k j) m;
        new = λ k i m l u v. go_new k i l u v (dec_lt k j) m;
      }
    where
      go_number : (k : ℕ) → from ≤ k → Dec (k < j) → k < j + 1 → eqb (get_or numbers k 0) absent ≡ false
      go_number k l (yes v) m = fine.numbered k l v
      go_number k l (no v) m = let q : k ≡ j = omega arith in ap (λ (k : ℕ). eqb (get_or numbers k 0) absent) q ∙ number

      go_new : (k i : ℕ) → from ≤ i → i < k → i < upto → Dec (k < j) → k < j + 1 → same (string_in text ends i) (string_in text ends k) ≡ false
      go_new k i l u v (yes w) m = fine.new k i w l u v
      go_new k i l u v (no w) m = let q : k ≡ j = omega arith in ap (λ (k : ℕ). same (string_in text ends i) (string_in text ends k)) q ∙ string i l (omega arith) v

  -- The strings before j are chained, or as many of them as a block has, and no entry before j is bad by its number or by one of these.
  pub record SoughtTo (from j : ℕ) (heads links : List ℕ) : Type 0 where
    pub count : ℕ
    pub few : count ≤ block_size
    pub within : from + count ≤ j
    pub all : count < block_size → from + count ≡ j
    pub chained : Chained text ends from count heads links
    pub fine : FineTo text ends numbers absent from (from + block_size) j

  -- LAW: before the first
  pub sought_first : (from : ℕ) (heads links : List ℕ) → ((d : ℕ) → get_or heads d 0 ≡ 0) → SoughtTo from from heads links
  sought_first from heads links empty =
      record {
        count = 0;
        few = omega arith;
        within = omega arith;
        all = λ l. omega arith;
        chained = none_chained text ends from heads links empty;
        fine = fine_none from (from + block_size);
      }

  module _ (from j : ℕ) (heads links : List ℕ) (to : SoughtTo from j heads links) (mark : ℕ) (small : mark < digests) (mark_is : mark ≡ digest_of (string_in text ends j)) where
    -- LAW: the chain on which string j would be
    pub sought_on : j ≤ length ends → ChainFrom text ends from (get_or heads mark 0) links (string_in text ends j)
    sought_on l = chain_of text ends from to.count heads links to.chained mark small (string_in text ends j) mark_is (omega (arith, to.within)) to.few

    -- LAW: string j is on it
    pub sought_bad : j ≤ length ends → some (get_or heads mark 0) (like text ends from (string_in text ends j)) ≡ true → bad_in text ends numbers absent j ≡ true
    sought_bad l found =
        or_left (listed_above text ends j) (eqb (get_or numbers j 0) absent)
        (was_before text ends from j (get_or heads mark 0) (omega (arith, to.within, chain_within text ends from to.count heads links to.chained mark small (string_in text ends j) mark_is)) found)

    module _ (none : some (get_or heads mark 0) (like text ends from (string_in text ends j)) ≡ false) (number : eqb (get_or numbers j 0) absent ≡ false) where
      fine_on : FineTo text ends numbers absent from (from + block_size) (j + 1)
      fine_on = fine_next from (from + block_size) j to.fine number (λ i l m u. go i l m u (dec_lt (i - from) to.count))
        where
          go : (i : ℕ) → from ≤ i → i < j → i < from + block_size → Dec (i - from < to.count) → same (string_in text ends i) (string_in text ends j) ≡ false
          go i l m u (yes v) =
              let q : from + (i - from) ≡ i = omega arith in
              ap (λ (i : ℕ). same (string_in text ends i) (string_in text ends j)) (inv q)
              ∙ not_chained text ends from to.count heads links to.chained mark small (string_in text ends j) mark_is none (i - from) v
          go i l m u (no v) = absurd (omega (arith, to.all (omega arith)))

      -- LAW: string j is chained too, while the block is not full
      pub sought_next : (k : ℕ) → from + k ≡ j → k < block_size → mark < length heads → k < length links → SoughtTo from (j + 1) (set heads mark (k + 1)) (set links k (get_or heads mark 0))
      sought_next k at room head-there link-there =
          record {
            count = k + 1;
            few = omega arith;
            within = omega arith;
            all = λ l. omega arith;
            chained = chained_next text ends from k heads links (rw all_before at to.chained) mark small (mark_is ∙ ap (λ (j : ℕ). digest_of (string_in text ends j)) (inv at)) head-there link-there;
            fine = fine_on;
          }
        where
          all_before : to.count ≡ k
          all_before = go (dec_lt to.count block_size)
            where
              go : Dec (to.count < block_size) → to.count ≡ k
              go (yes v) = omega (arith, to.all v)
              go (no v) = absurd (omega (arith, to.within))

      -- LAW: and is not, where it is
      pub sought_past : (k : ℕ) → from + k ≡ j → block_size ≤ k → SoughtTo from (j + 1) heads links
      sought_past k at full =
          record {
            count = to.count;
            few = to.few;
            within = omega (arith, to.within);
            all = λ l. absurd (omega (arith, to.all l));
            chained = to.chained;
            fine = fine_on;
          }

  -- LAW: all blocks
  pub fine_all : (upto end : ℕ) → FineTo text ends numbers absent 0 upto end → end ≤ upto → (j : ℕ) → j < end → bad_in text ends numbers absent j ≡ false
  fine_all upto end fine l j m =
      rw (none_of j (λ i. same (string_in text ends i) (string_in text ends j)) (λ i u. fine.new j i m (omega arith) u (omega arith)))
      (fine.numbered j (omega arith) m)
