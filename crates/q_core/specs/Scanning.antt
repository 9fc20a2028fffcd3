-- What a scan and a remembered request come to be by a book.
use Rattle.std.specs.Prelude.{None, Option, Some, ℕ}
use Rattle.q_model.specs.declared.rows.DeferredName.{DeferredName}
use Rattle.q_model.specs.declared.rows.Request.{Request}
use Rattle.q_model.specs.declared.rows.Scan.{Scan}
use Rattle.q_model.specs.Book.{Book}
use Rattle.q_model.specs.Scans.{live, new_scan, scan_next}

-- a scan that is over gives way to the request
abbrev pub scan_over : Book → ℕ → Option Request → (Option Scan × Option Request)
scan_over b now None = (None, None)
scan_over b now (Some request) = (live b (new_scan now request), None)

-- by whether the scan has a next name
abbrev pub scan_at : Book → ℕ → Scan → Option Request → Option DeferredName
    → (Option Scan × Option Request)
scan_at b now s asked None = scan_over b now asked
scan_at b now s asked (Some name) = (Some s, asked)

-- the scan goes on while it has a next name
abbrev pub scan_after : Book → ℕ → Option Scan → Option Request → (Option Scan × Option Request)
scan_after b now None asked = (None, asked)
scan_after b now (Some s) asked = scan_at b now s asked (scan_next b s)
