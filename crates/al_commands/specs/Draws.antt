-- The numbers of a drill, and the requests that they make.
use Rattle.std.specs.Prelude.{ℕ, zero, suc, ◌+◌, ◌*◌, ◌/◌, ◌%◌, ◌==◌, ◌||◌, if◌then◌else◌, List, [], ◌∷◌, ◌++◌, codes, decimal, length}

-- ---- the numbers

-- the number behind a number
abbrev pub next_number : ℕ → ℕ
next_number x = (x * 1103515245 + 12345) % 2147483648

-- what is drawn where this is the number: the upper half of the one behind it
abbrev pub drawn : ℕ → ℕ
drawn x = next_number x / 65536

-- ---- the requests

abbrev pub crlf : List ℕ
crlf = 13 ∷ 10 ∷ []

-- a request with a body, whose line and further fields these are
abbrev pub with_body : List ℕ → List ℕ → List ℕ
with_body head body = head ++ codes "Content-Length: " ++ decimal (length body) ++ crlf ++ crlf ++ body

-- what installs an inventory of the one type `ex:link`
abbrev pub install_text : List ℕ
install_text =
    with_body (codes "PUT /restconf/data/alarmd:inventory HTTP/1.1\r\n") (codes "{\"alarmd:inventory\":{\"alarm-type\":[{\"alarm-type-id\":\"ex:link\",\"description\":\"Link\",\"ietf-alarms-x733:event-type\":\"communications-alarm\",\"will-clear\":true}],\"identity\":[{\"base\":\"ietf-alarms:alarm-type-id\",\"name\":\"ex:link\"}]}}")

abbrev pub port : ℕ → List ℕ
port a = codes "port" ++ decimal (a % 200)

abbrev pub shelf_path : ℕ → List ℕ
shelf_path a = codes "/restconf/data/ietf-alarms:alarms/control/alarm-shelving/shelf=s" ++ decimal (a % 4)

-- the report that a port has this status, in words
abbrev pub report_text : ℕ → ℕ → List ℕ → List ℕ
report_text a c status =
    with_body (codes "POST /restconf/operations/alarmd:report HTTP/1.1\r\n")
    (codes "{\"alarmd:input\":{\"alarm-text\":\"t" ++ decimal (c % 3) ++ codes "\",\"alarm-type-id\":\"ex:link\",\"perceived-severity\":\"" ++ status ++ codes "\",\"resource\":\"" ++ port a ++ codes "\"}}")

-- the acknowledgement of a port's alarm
abbrev pub acknowledge_text : ℕ → List ℕ
acknowledge_text a =
    with_body (codes "POST /restconf/data/ietf-alarms:alarms/alarm-list/alarm=" ++ port a ++ codes ",ex:link,/set-operator-state HTTP/1.1\r\nAlarm-Operator: drill\r\n")
    (codes "{\"ietf-alarms:input\":{\"state\":\"ack\"}}")

-- a shelf for the ports whose numbers begin so
abbrev pub put_shelf_text : ℕ → ℕ → List ℕ
put_shelf_text a c =
    with_body (codes "PUT " ++ shelf_path a ++ codes " HTTP/1.1\r\n")
    (codes "{\"ietf-alarms:shelf\":[{\"name\":\"s" ++ decimal (a % 4) ++ codes "\",\"resource\":[\"port" ++ decimal (c % 10) ++ codes "[0-9]*\"]}]}")

abbrev pub drop_shelf_text : ℕ → List ℕ
drop_shelf_text a = codes "DELETE " ++ shelf_path a ++ codes " HTTP/1.1\r\n\r\n"

-- the request of a kind from 0 to 9
abbrev pub text_of_kind : ℕ → ℕ → ℕ → List ℕ
text_of_kind kind a c =
    if kind == 0 then report_text a c (codes "indeterminate")
    else if kind == 1 then report_text a c (codes "warning")
    else if kind == 2 then report_text a c (codes "minor")
    else if kind == 3 then report_text a c (codes "major")
    else if kind == 4 then report_text a c (codes "critical")
    else if kind == 5 || kind == 6 then report_text a c (codes "cleared")
    else if kind == 7 then acknowledge_text a
    else if kind == 8 then put_shelf_text a c
    else drop_shelf_text a

-- the request of three draws
unfoldable pub text_by : ℕ → ℕ → ℕ → List ℕ
text_by a b c = text_of_kind (b % 10) a c

-- so many requests, the first by the three draws behind this number
abbrev pub texts_from : ℕ → ℕ → List (List ℕ)
texts_from x zero = []
texts_from x (suc count) =
    let y = next_number x in
    let z = next_number y in
    text_by (drawn x) (drawn y) (drawn z) ∷ texts_from (next_number z) count

-- all that is sent
abbrev pub drill_texts : ℕ → ℕ → List (List ℕ)
drill_texts seed count = install_text ∷ texts_from seed count
