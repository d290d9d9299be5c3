-- The lines of a load: records as a script has them, which a seed makes up.
use Rattle.std.specs.Prelude.{ℕ, zero, suc, ◌+◌, ◌*◌, ◌/◌, ◌%◌, List, [], ◌∷◌, ◌++◌, codes}
use Rattle.std.specs.Fmt.{decimal}
use Rattle.gw_base.specs.Random.{next_state, word_of}

-- What a load begins with: an API whose one method asks for a key and answers by itself, a stage of it with a canary that takes a
-- quarter of the calls, eight keys, and a plan of the stage that all of them joined.
unfoldable pub first_lines : List ℕ
first_lines =
    codes "api 0 load {\"version\":1,\"resources\":{\"/\":{\"GET\":{\"apiKeyRequired\":true,\"integration\":{\"type\":\"MOCK\",\"templates\":{\"application/json\":\"{\\\"statusCode\\\":200}\"},\"responses\":[{\"status\":200}]}}}}}\ndeploy 0 load\ndeploy 0 load\nstage 0 load s 1\ncanary 0 load s 2 2500\nkey 0 k0 load-key-0 on\nkey 0 k1 load-key-1 on\nkey 0 k2 load-key-2 on\nkey 0 k3 load-key-3 on\nkey 0 k4 load-key-4 on\nkey 0 k5 load-key-5 on\nkey 0 k6 load-key-6 on\nkey 0 k7 load-key-7 on\nplan 0 p 5:10 1000:0:DAY load/s\njoin 0 p k0\njoin 0 p k1\njoin 0 p k2\njoin 0 p k3\njoin 0 p k4\njoin 0 p k5\njoin 0 p k6\njoin 0 p k7"

-- the moment of the call of a number, by its word: one in each ten milliseconds
abbrev pub moment_of : ℕ → ℕ → ℕ
moment_of number word = 10 * number + (word / 256) % 10

-- its word of chance, and the number of its key
abbrev pub chance_of : ℕ → ℕ
chance_of word = word / 65536

abbrev pub key_of : ℕ → ℕ
key_of word = word % 8

-- the line of the call of a number, by its word
unfoldable pub call_line : ℕ → ℕ → List ℕ
call_line number word =
    codes "call " ++ (decimal (moment_of number word) ++ (codes " " ++ (decimal (chance_of word)
    ++ (codes " GET%20/load/s%20HTTP/1.1%0D%0Ahost:%20localhost%0D%0Ax-api-key:%20load-key-" ++ (decimal (key_of word) ++ codes "%0D%0A%0D%0A")))))

-- the lines of so many calls, the first of which has this number, by the words behind this state
abbrev pub call_lines : ℕ → ℕ → ℕ → List (List ℕ)
call_lines state number zero = []
call_lines state number (suc more) = call_line number (word_of (next_state state)) ∷ call_lines (next_state state) (number + 1) more
