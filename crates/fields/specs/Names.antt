-- Request C-19's fixed list: the name of each field, in the order of a stream, letter for letter; and which fields hold codes, whose numbers the papers write in
-- hexadecimal.
use Rattle.std.specs.Prelude.{Bool, true, false, ◌&&◌, List, ℕ}
use Rattle.fields.specs.Letters.{ascii}
use Rattle.rows.specs.declared.Field.{Field}
use Rattle.rows.specs.declared.Field.TheVariants.{Soc, Cap, Lcap, Pih, Lpih, Lcod, Wf, Hf, Cw, Hsl, Nc, Ng, Ss, Bw, Fq, Br, Fslc, Ppoc, Cpih, Nlx}
use Rattle.rows.specs.declared.Field.TheVariants.{Nly, Qpih, Fs, Rm, Next, Cdt, Wgt, Nlt, Cwd, Cts, Crg, Tpc, Wgr, Sli, Lcdt, B, Sx, Sy, Across, Down}
use Rattle.rows.specs.declared.Field.TheVariants.{Lwgt, G, Lcom, Tcom, Lcrg, Lcwd, Sd, Samples, Work, Marks, Distances, Slh, Lslh, Ysl, Lprc, Precinct, Q, R, D, Packet}
use Rattle.rows.specs.declared.Field.TheVariants.{Dr, Significance, Counts, M, Ones, Data, Signs, Rest, Eoc, Tail}
use Rattle.rows.specs.declared.Row.{Row}
use Rattle.rows.specs.declared.Row.TheVariants.{Cut, Marker, Value, Lacking, Lent, Length, Count, Mode}

-- one name for one meaning
abbrev pub name_of : Field → List ℕ
name_of Soc = ascii "SOC start marker"
name_of Cap = ascii "CAP capabilities marker"
name_of Lcap = ascii "Lcap capabilities length"
name_of Pih = ascii "PIH picture header marker"
name_of Lpih = ascii "Lpih picture header length"
name_of Lcod = ascii "Lcod stream length"
name_of Wf = ascii "Wf width"
name_of Hf = ascii "Hf height"
name_of Cw = ascii "width modulo precinct column"
name_of Hsl = ascii "Hsl slice height"
name_of Nc = ascii "Nc number of components"
name_of Ng = ascii "Ng code group size"
name_of Ss = ascii "Ss significance group size"
name_of Bw = ascii "Bw wavelet precision"
name_of Fq = ascii "Fq fractional bits"
name_of Br = ascii "Br bits of a raw count"
name_of Fslc = ascii "Fslc slice coding mode"
name_of Ppoc = ascii "Ppoc progression order"
name_of Cpih = ascii "Cpih colour transform"
name_of Nlx = ascii "NLx levels across"
name_of Nly = ascii "NLy levels down"
name_of Qpih = ascii "Qpih quantiser"
name_of Fs = ascii "Fs sign handling"
name_of Rm = ascii "Rm run mode"
name_of Next = ascii "marker"
name_of Cdt = ascii "component tables"
name_of Wgt = ascii "weights tables"
name_of Nlt = ascii "non-linear output segments"
name_of Cwd = ascii "CWD segments"
name_of Cts = ascii "colour transform segments"
name_of Crg = ascii "component registrations"
name_of Tpc = ascii "temporal control segments"
name_of Wgr = ascii "refresh weights tables"
name_of Sli = ascii "temporal slice headers"
name_of Lcdt = ascii "Lcdt component table length"
name_of B = ascii "B component precision"
name_of Sx = ascii "sx sampling across"
name_of Sy = ascii "sy sampling down"
name_of Across = ascii "samples joined by a filter across"
name_of Down = ascii "samples joined by a filter down"
name_of Lwgt = ascii "Lwgt weights table length"
name_of G = ascii "gain"
name_of Lcom = ascii "Lcom extension length"
name_of Tcom = ascii "Tcom extension type"
name_of Lcrg = ascii "Lcrg registration length"
name_of Lcwd = ascii "Lcwd CWD length"
name_of Sd = ascii "Sd undecomposed components"
name_of Samples = ascii "sample cells"
name_of Work = ascii "work cells"
name_of Marks = ascii "marks in bytes"
name_of Distances = ascii "distance cells"
name_of Slh = ascii "SLH slice marker"
name_of Lslh = ascii "Lslh slice header length"
name_of Ysl = ascii "Ysl slice index"
name_of Lprc = ascii "Lprc precinct length"
name_of Precinct = ascii "whole precinct in bytes"
name_of Q = ascii "Q quantisation"
name_of R = ascii "R refinement"
name_of D = ascii "vertical prediction bit of D"
name_of Packet = ascii "packet header bytes"
name_of Dr = ascii "Dr raw flag"
name_of Significance = ascii "significance bytes"
name_of Counts = ascii "Lcnt count bytes"
name_of M = ascii "bitplane count"
name_of Ones = ascii "one-bits of a count code"
name_of Data = ascii "Ldat data bytes"
name_of Signs = ascii "Lsgn sign bytes"
name_of Rest = ascii "bytes behind the last packet"
name_of Eoc = ascii "EOC end marker"
name_of Tail = ascii "bytes behind the end marker"

-- the markers and the type of an extension: the papers write these as codes
abbrev pub code_field : Field → Bool
code_field Soc = true
code_field Cap = true
code_field Pih = true
code_field Next = true
code_field Slh = true
code_field Eoc = true
code_field Tcom = true
code_field Lcap = false
code_field Lpih = false
code_field Lcod = false
code_field Wf = false
code_field Hf = false
code_field Cw = false
code_field Hsl = false
code_field Nc = false
code_field Ng = false
code_field Ss = false
code_field Bw = false
code_field Fq = false
code_field Br = false
code_field Fslc = false
code_field Ppoc = false
code_field Cpih = false
code_field Nlx = false
code_field Nly = false
code_field Qpih = false
code_field Fs = false
code_field Rm = false
code_field Cdt = false
code_field Wgt = false
code_field Nlt = false
code_field Cwd = false
code_field Cts = false
code_field Crg = false
code_field Tpc = false
code_field Wgr = false
code_field Sli = false
code_field Lcdt = false
code_field B = false
code_field Sx = false
code_field Sy = false
code_field Across = false
code_field Down = false
code_field Lwgt = false
code_field G = false
code_field Lcom = false
code_field Lcrg = false
code_field Lcwd = false
code_field Sd = false
code_field Samples = false
code_field Work = false
code_field Marks = false
code_field Distances = false
code_field Lslh = false
code_field Ysl = false
code_field Lprc = false
code_field Precinct = false
code_field Q = false
code_field R = false
code_field D = false
code_field Packet = false
code_field Dr = false
code_field Significance = false
code_field Counts = false
code_field M = false
code_field Ones = false
code_field Data = false
code_field Signs = false
code_field Rest = false
code_field Tail = false

-- the rows that speak of a field's value: 2, 3 and 4
abbrev pub code_row : Row → Bool
code_row Cut = false
code_row Marker = true
code_row Value = true
code_row Lacking = true
code_row Lent = false
code_row Length = false
code_row Count = false
code_row Mode = false

-- whether the numbers of a broken check are codes
abbrev pub codes : Row → Field → Bool
codes row f = code_row row && code_field f
