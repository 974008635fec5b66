-- What a host gets in hand by the cells that ntske_read_request and ntske_read_reply answered: demand 3, "the answer's kind, numbers, names, keys and cookies",
-- read from the cells as include/ntske.h says.
use Rattle.std.specs.Prelude.{ℕ, List, cond, eqb}
use Rattle.wire.specs.Bytes.{part_at}
use Rattle.places.specs.Places.{entries_from}
use Rattle.reply.specs.Reply.{sent, not_sent}
use Rattle.cells.specs.Cells.{cell}
use Rattle.promises.specs.Handed as request
use Rattle.promises.specs.HandedReply as reply

-- the part of the message whose start and length stand in two cells
abbrev pub part_in : List ℕ → List ℕ → ℕ → ℕ → List ℕ
part_in m c i j = part_at m (cell c i) (cell c j)

-- of a message, the table after the call, and the ten cells; the first cell is the request's sort, and a call that returned 0 put 1, 2 or 3 there
abbrev pub request_in_hand : List ℕ → List ℕ → List ℕ → request.Shown
request_in_hand m table c =
    cond (eqb (cell c 0) 1)
    (request.key_exchange (part_in m c 1 2) (part_in m c 3 4) (cell c 5) (entries_from m table 0 (cell c 5)))
    (cond (eqb (cell c 0) 2)
    (request.fixed_key (part_in m c 1 2) (part_in m c 3 4) (part_in m c 5 6) (cell c 7) (cell c 8) (eqb (cell c 9) 1))
    (request.support (part_in m c 1 2) (eqb (cell c 3) 1) (eqb (cell c 4) 1) (eqb (cell c 5) 1)))

-- .. and the nine cells
abbrev pub reply_in_hand : List ℕ → List ℕ → List ℕ → reply.Shown
reply_in_hand m table c =
    reply.reply (cell c 0) (cell c 1) (cond (eqb (cell c 2) 1) (sent (part_in m c 3 4)) not_sent) (cond (eqb (cell c 5) 1) (sent (cell c 6)) not_sent)
    (eqb (cell c 7) 1) (cell c 8) (entries_from m table 0 (cell c 8))
