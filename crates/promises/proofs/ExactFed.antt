-- Demand 1: a read that is fed in pieces refuses, where it has no answer yet, with each number of its set and with no other: with those of the whole-message reader, since a
-- whole message in one piece, with the close behind it and a buffer as long, is read as the whole-message reader reads it; with 9; and with 16.
-- Assumes nothing.
use mathlib.Core.Path.{◌≡◌, refl, sym, ap, ◌∙◌}
use mathlib.Core.List.{List, [], ◌∷◌}
use mathlib.Core.Bool.{Bool, true, false, cond}
use Prim.Native.Nat.{ℕ}
use native.Mathlib.Omega.{arith}
use lib.ListN.{length, take, length-take}
use Rattle.walk.specs.Judge as judge
use Rattle.walk.specs.Judge.{Terms, room_for, read_by}
use Rattle.layout.specs.Profile.{is_final}
use Rattle.layout.specs.declared.Profile.{Profile}
use Rattle.layout.specs.declared.Profile.TheVariants.{Usual, Strict}
use Rattle.walk.proofs.Numbered.{Barred}
use Rattle.request.specs.Request as requests
use Rattle.request.proofs.Order.{room_alone}
use Rattle.request.proofs.Numbered.{request_numbered}
use Rattle.reply.specs.Reply as replies
use Rattle.reply.proofs.Numbered.{reply_numbered}
use Rattle.pieces.specs.Pieces.{started, broken, Brought, joined, inside, fitting, full, whole, going, otherwise, How, waiting, no_room, followed, decided, gathers, after_end, comes, Read, Fed, none, answers, refused_at, answer_after, first_answer, answer_of, line_after, buffer_after, table_after, says_of, held}
use Rattle.pieces.specs.Reads.{request_read, reply_read}
use Rattle.feeding.proofs.Refusing.{refused_by}
use Rattle.feeding.proofs.Answering.{Numbers, Ends}
use Rattle.promises.specs.Pieces.{Made, undecided, answer_on}
use Rattle.promises.specs.Numbers as numbers
use Rattle.promises.specs.Numbers.{In, All, Number, bears, Exactly, of_answer, of_fed, request_numbers, reply_numbers, feed_request_numbers, feed_reply_numbers, ReadReply, Piecewise, line_of}
use Rattle.promises.proofs.Exact.{request_exactly, reply_exactly}
use Rattle.promises.proofs.RefusingFed.{cause_in, request_reads, reply_reads, request_ends, reply_ends}
use Rattle.promises.proofs.Waiting.{waits_start}
use Rattle.promises.proofs.Coming.{lacks_room_lem}
use Rattle.promises.proofs.Cutting.{Local, stops_in, answer_is, answer_of_lem}
use Rattle.promises.proofs.Locals.{request_local, reply_local}

-- ---- the number that is borne

abbrev pub number_fed : Read → Profile → Piecewise → Number
number_fed X P x = of_fed (answer_of X (line_of P x) x.buffer x.brought x.terms)

-- ---- a whole message in one piece

module _ (X : Read) (L : Local X) (P : Profile) (m : List ℕ) (n : ℕ) (room : Terms) where
  abbrev all : Brought
  all = record { piece = m; closed = true }

  -- the call that is so
  made : Made X
  made = record {
    before = started P n;
    lent = m;
    brought = all;
    terms = room;
    table = [];
    said = says_of X (held (line_after X (started P n) m all room) (buffer_after X (started P n) m all)) (answer_of X (started P n) m all room);
    after = line_after X (started P n) m all room;
    left = buffer_after X (started P n) m all;
    filled = table_after X (started P n) m all room [];
  }

  abbrev asked : Piecewise
  asked = record { limit = n; gathered = 0; begins = 0; met = 0; buffer = m; brought = all; terms = room }

  in_one : answer_of X (started P n) m all room ≡ answers (read_by X.reader X.judging m (record { profile = P; limit = n; terms = room }))
  unfolding made answer_on undecided
  in_one =
      answer_of_lem X L P n m [] made (record { answer = refl; line = refl; buffer = refl; table = refl }) (waits_start P (X.reader P) n m)
      ∙ answer_is X L P n (length m) m true room
      ∙ rw (lacks_room_lem (X.reader P) (stops_in X L P) n (length m) m (omega (arith, length-take n m)))

  bears_one : (k : ℕ) → of_answer (read_by X.reader X.judging m (record { profile = P; limit = n; terms = room })) ≡ bears k → number_fed X P asked ≡ bears k
  bears_one k e = ap of_fed in_one ∙ e

-- so each number of the whole-message reader
each_whole : (X : Read) (L : Local X) (P : Profile) {A : Type 0} (m : A → List ℕ) (limit : A → ℕ) (room : A → Terms) (l : List ℕ)
    → All (λ n. (x : A) × (of_answer (read_by X.reader X.judging (m x) (record { profile = P; limit = limit x; terms = room x })) ≡ bears n)) l
    → All (λ n. (x : Piecewise) × (number_fed X P x ≡ bears n)) l
each_whole X L P m limit room [] h = tt
each_whole X L P m limit room (n ∷ l) h =
    let x = h.0.0 in
    ((asked X L P (m x) (limit x) (room x), bears_one X L P (m x) (limit x) (room x) n h.0.1), each_whole X L P m limit room l h.1)

-- ---- no other

only_fed : (X : Read) (P : Profile) (l : List ℕ) → In 9 l → In 16 l → Ends X P (λ n. In n l) → Numbers X P (λ n. In n l) → (x : Piecewise) (n : ℕ) → number_fed X P x ≡ bears n → In n l
only_fed X P l nine sixteen eighteen reads x n e = go (answer_of X (line_of P x) x.buffer x.brought x.terms) refl e
  where
    number_one : (i k : ℕ) → bears i ≡ bears k → i ≡ k
    number_one i k q = cc

    go : (a : Fed X.judging.Q) → answer_of X (line_of P x) x.buffer x.brought x.terms ≡ a → of_fed a ≡ bears n → In n l
    go none p q = let z : ◌≡◌ {A = ℕ} 0 1 = cc in absurd (omega arith)
    go (answers (judge.refused r)) p q =
        rw (sym (number_one r.number n q)) (cause_in X (line_of P x) l nine sixteen eighteen reads r (refused_by X (line_of P x) x.buffer x.brought x.terms r p))
    go (answers (judge.accepted y)) p q = let z : ◌≡◌ {A = ℕ} 0 1 = cc in absurd (omega arith)

-- ---- each: one byte counted and no buffer; one byte brought and no buffer

nine_asked : Piecewise
nine_asked = record { limit = 1; gathered = 1; begins = 0; met = 0; buffer = []; brought = record { piece = []; closed = false }; terms = room_for 0 }

sixteen_asked : Piecewise
sixteen_asked = record { limit = 1; gathered = 0; begins = 0; met = 0; buffer = []; brought = record { piece = 128 ∷ []; closed = false }; terms = room_for 0 }

nine_told : (X : Read) (P : Profile) → number_fed X P nine_asked ≡ bears 9
unfolding nine_asked answer_of broken
nine_told X P = refl

sixteen_request : (P : Profile) → number_fed request_read P sixteen_asked ≡ bears 16
unfolding sixteen_asked answer_of first_answer broken joined inside fitting full whole going otherwise gathers after_end comes is_final
sixteen_request Usual = refl
sixteen_request Strict = refl

sixteen_reply : (P : Profile) → number_fed reply_read P sixteen_asked ≡ bears 16
unfolding sixteen_asked answer_of first_answer broken joined inside fitting full whole going otherwise gathers after_end comes is_final
sixteen_reply Usual = refl
sixteen_reply Strict = refl

pub feed_request_exactly : (P : Profile) → Exactly (λ (x : Piecewise). number_fed request_read P x) (feed_request_numbers P)
unfolding requests.request
feed_request_exactly P = record {
  only = only_fed request_read P (feed_request_numbers P) refl refl (request_ends P) (request_reads P);
  each = (
    (nine_asked, nine_told request_read P),
    (
      (sixteen_asked, sixteen_request P),
      each_whole request_read request_local P (λ (x : numbers.Read). x.message) (λ x. x.limit) (λ x. room_for x.room) (request_numbers P) (request_exactly P).each,
    ),
  );
}

pub feed_reply_exactly : (P : Profile) → Exactly (λ (x : Piecewise). number_fed reply_read P x) (feed_reply_numbers P)
unfolding replies.reply_of
feed_reply_exactly P = record {
  only = only_fed reply_read P (feed_reply_numbers P) refl refl (reply_ends P) (reply_reads P);
  each = (
    (nine_asked, nine_told reply_read P),
    (
      (sixteen_asked, sixteen_reply P),
      each_whole reply_read reply_local P (λ (x : ReadReply). x.message) (λ x. x.limit) (λ x. x.terms) (reply_numbers P) (reply_exactly P).each,
    ),
  );
}

-- ---- 9, "for a connection record that counts more bytes than the buffer or the limit", and for no other

module _ (X : Read) (P : Profile) (reads : Numbers X P (λ n. n ≡ 9 → ⊥)) (x : Piecewise) where
  nine_broken : number_fed X P x ≡ bears 9 → broken (line_of P x) x.buffer ≡ true
  unfolding answer_of first_answer
  nine_broken = go (broken (line_of P x) x.buffer) refl
    where
      number_nine : (k : ℕ) → bears k ≡ bears 9 → k ≡ 9
      number_nine k q = cc

      by_answer : (s : List ℕ) (a : judge.Answer X.judging.Q) → read_by X.reader X.judging s (record { profile = P; limit = x.limit; terms = x.terms }) ≡ a → of_answer a ≡ bears 9 → ⊥
      by_answer s (judge.refused r) p q = reads s x.limit x.terms r p (number_nine r.number q)
      by_answer s (judge.accepted y) p q = let z : ◌≡◌ {A = ℕ} 0 1 = cc in omega arith

      by_how : (w : How) (s : List ℕ) → of_fed (answer_after X P x.limit w s x.terms) ≡ bears 9 → ⊥
      by_how waiting s q = let z : ◌≡◌ {A = ℕ} 0 1 = cc in omega arith
      by_how no_room s q = let z = number_nine 16 q in omega arith
      by_how followed s q = let z = number_nine 18 q in omega arith
      by_how decided s q = by_answer s (read_by X.reader X.judging s (record { profile = P; limit = x.limit; terms = x.terms })) refl q

      go : (t : Bool) → broken (line_of P x) x.buffer ≡ t
          → of_fed (cond t (refused_at 9 0) (answer_after X P x.limit (comes (X.reader P) (line_of P x) x.buffer x.brought).how (take (comes (X.reader P) (line_of P x) x.buffer x.brought).gathered (joined (line_of P x) x.buffer x.brought)) x.terms)) ≡ bears 9
          → broken (line_of P x) x.buffer ≡ true
      go true p q = p
      go false p q = absurd (by_how (comes (X.reader P) (line_of P x) x.buffer x.brought).how _ q)

  broken_nine : broken (line_of P x) x.buffer ≡ true → answer_of X (line_of P x) x.buffer x.brought x.terms ≡ refused_at 9 0
  unfolding answer_of
  broken_nine p = rw p

abbrev pub NineExactly : Read → Type 0
NineExactly X = (P : Profile) (x : Piecewise)
    → (number_fed X P x ≡ bears 9 → broken (line_of P x) x.buffer ≡ true) × (broken (line_of P x) x.buffer ≡ true → answer_of X (line_of P x) x.buffer x.brought x.terms ≡ refused_at 9 0)

-- 18 is not 9
barred : (P : Profile) → Barred (λ (k : ℕ). k ≡ 9 → ⊥) P
barred Usual = tt
barred Strict = λ q. omega arith

pub feed_request_nine : NineExactly request_read
unfolding requests.request
feed_request_nine P x =
    let reads : Numbers request_read P (λ n. n ≡ 9 → ⊥) =
    λ s n u y e. (request_numbered (λ k. k ≡ 9 → ⊥) (λ q. omega arith, λ q. omega arith, λ q. omega arith, λ q. omega arith, λ q. omega arith, λ q. omega arith, λ q. omega arith) P (barred P) s n u.room y
    (sym (room_alone s (record { profile = P; limit = n; terms = u })) ∙ e)).one in
    (nine_broken request_read P reads x, broken_nine request_read P reads x)

pub feed_reply_nine : NineExactly reply_read
unfolding replies.reply_of
feed_reply_nine P x =
    let reads : Numbers reply_read P (λ n. n ≡ 9 → ⊥) =
    λ s n room y e. (reply_numbered (λ k. k ≡ 9 → ⊥) (λ q. omega arith, λ q. omega arith, λ q. omega arith, λ q. omega arith, λ q. omega arith, λ q. omega arith, λ q. omega arith, λ q. omega arith, λ q. omega arith, λ q. omega arith, λ q. omega arith) P (barred P) s n room y e).one in
    (nine_broken reply_read P reads x, broken_nine reply_read P reads x)
