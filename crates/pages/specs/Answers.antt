-- What must be answered for the streams that are read, and the samples that must be handed over. Decoders that were written from the standard and document 01,
-- independently of each other and of these definitions, agree on it (crates/vectors/README.md); precision, caption and where the bytes went are those of
-- tests/independent.
use Rattle.std.specs.Prelude.{true, false, List, [], ◌∷◌, ℕ}
use Rattle.pieces.specs.declared.Bytes.{Bytes}
use Rattle.reader.specs.declared.page.Page.{Page}

-- the record of a page, and the samples that are handed over
pub record Reading : Type 0 where
  pub page : Page
  pub samples : List ℕ

abbrev pub colours_read : Reading
colours_read =
    record {
      page =
          record {
            answer = 0;
            place = 194;
            components = 3;
            caption = true;
            width = 3 ∷ 3 ∷ 3 ∷ 0 ∷ [];
            height = 3 ∷ 3 ∷ 3 ∷ 0 ∷ [];
            precision = 12 ∷ 10 ∷ 14 ∷ 0 ∷ [];
            distance = 290 ∷ 49 ∷ 1462 ∷ 0 ∷ [];
            bytes = record { markers = 126; precincts = 16; packets = 30; significance = 0; counts = 9; «data» = 9; signs = 4; filler = 0; spoilt = 0 };
          };
      samples =
          2134 ∷ 2089 ∷ 2062 ∷
          1970 ∷ 2046 ∷ 2132 ∷
          2148 ∷ 2045 ∷ 2016 ∷
          505 ∷ 519 ∷ 531 ∷
          521 ∷ 515 ∷ 517 ∷
          508 ∷ 508 ∷ 519 ∷
          8078 ∷ 7818 ∷ 7534 ∷
          8334 ∷ 7998 ∷ 7798 ∷
          8134 ∷ 8122 ∷ 8310 ∷
          [];
    }

abbrev pub four_components_read : Reading
four_components_read =
    record {
      page =
          record {
            answer = 0;
            place = 191;
            components = 4;
            caption = false;
            width = 8 ∷ 4 ∷ 4 ∷ 8 ∷ [];
            height = 1 ∷ 1 ∷ 1 ∷ 1 ∷ [];
            precision = 16 ∷ 16 ∷ 16 ∷ 16 ∷ [];
            distance = 65535 ∷ 65535 ∷ 65535 ∷ 65535 ∷ [];
            bytes = record { markers = 170; precincts = 7; packets = 7; significance = 0; counts = 2; «data» = 4; signs = 1; filler = 0; spoilt = 0 };
          };
      samples =
          0 ∷ 0 ∷ 0 ∷ 0 ∷ 0 ∷ 0 ∷ 32768 ∷ 32768 ∷
          32768 ∷ 32768 ∷ 32768 ∷ 32768 ∷
          0 ∷ 65535 ∷ 65535 ∷ 65535 ∷
          32768 ∷ 32768 ∷ 32768 ∷ 32768 ∷ 32768 ∷ 32768 ∷ 32768 ∷ 32768 ∷
          [];
    }

abbrev pub two_columns_read : Reading
two_columns_read =
    record {
      page =
          record {
            answer = 0;
            place = 615;
            components = 3;
            caption = false;
            width = 111 ∷ 56 ∷ 56 ∷ 0 ∷ [];
            height = 4 ∷ 2 ∷ 2 ∷ 0 ∷ [];
            precision = 8 ∷ 8 ∷ 8 ∷ 0 ∷ [];
            distance = 0 ∷ 0 ∷ 0 ∷ 0 ∷ [];
            bytes = record { markers = 90; precincts = 20; packets = 100; significance = 11; counts = 82; «data» = 247; signs = 57; filler = 8; spoilt = 0 };
          };
      samples =
          133 ∷ 134 ∷ 143 ∷ 140 ∷ 149 ∷ 143 ∷ 147 ∷ 149 ∷ 159 ∷ 164 ∷ 162 ∷ 163 ∷ 166 ∷ 169 ∷ 177 ∷ 176 ∷ 184 ∷ 178 ∷ 183 ∷ 187 ∷ 196 ∷ 194 ∷ 199 ∷ 206 ∷ 200 ∷
          206 ∷ 214 ∷ 209 ∷ 211 ∷ 214 ∷ 222 ∷ 224 ∷ 228 ∷ 236 ∷ 239 ∷ 241 ∷ 245 ∷ 238 ∷ 247 ∷ 254 ∷ 252 ∷ 255 ∷ 255 ∷ 255 ∷ 255 ∷ 255 ∷ 255 ∷ 255 ∷ 255 ∷ 255 ∷
          255 ∷ 255 ∷ 255 ∷ 255 ∷ 255 ∷ 255 ∷ 255 ∷ 255 ∷ 255 ∷ 255 ∷ 255 ∷ 255 ∷ 255 ∷ 255 ∷ 255 ∷ 255 ∷ 255 ∷ 255 ∷ 255 ∷ 255 ∷ 255 ∷ 255 ∷ 255 ∷ 255 ∷ 255 ∷
          255 ∷ 255 ∷ 255 ∷ 255 ∷ 255 ∷ 255 ∷ 255 ∷ 255 ∷ 255 ∷ 255 ∷ 255 ∷ 255 ∷ 255 ∷ 255 ∷ 255 ∷ 255 ∷ 255 ∷ 255 ∷ 255 ∷ 255 ∷ 255 ∷ 255 ∷ 255 ∷ 255 ∷ 255 ∷
          255 ∷ 255 ∷ 255 ∷ 255 ∷ 255 ∷ 255 ∷ 255 ∷ 255 ∷ 255 ∷ 255 ∷ 255 ∷
          135 ∷ 131 ∷ 133 ∷ 142 ∷ 138 ∷ 149 ∷ 143 ∷ 151 ∷ 149 ∷ 153 ∷ 160 ∷ 165 ∷ 161 ∷ 164 ∷ 176 ∷ 177 ∷ 180 ∷ 179 ∷ 183 ∷ 184 ∷ 191 ∷ 193 ∷ 199 ∷ 201 ∷ 201 ∷
          203 ∷ 208 ∷ 212 ∷ 215 ∷ 212 ∷ 224 ∷ 228 ∷ 227 ∷ 229 ∷ 237 ∷ 232 ∷ 242 ∷ 238 ∷ 245 ∷ 248 ∷ 252 ∷ 255 ∷ 255 ∷ 255 ∷ 255 ∷ 255 ∷ 255 ∷ 255 ∷ 255 ∷ 255 ∷
          255 ∷ 255 ∷ 255 ∷ 255 ∷ 255 ∷ 255 ∷ 255 ∷ 255 ∷ 255 ∷ 255 ∷ 255 ∷ 255 ∷ 255 ∷ 255 ∷ 255 ∷ 255 ∷ 255 ∷ 255 ∷ 255 ∷ 255 ∷ 255 ∷ 255 ∷ 255 ∷ 255 ∷ 255 ∷
          255 ∷ 255 ∷ 255 ∷ 255 ∷ 255 ∷ 255 ∷ 255 ∷ 255 ∷ 255 ∷ 255 ∷ 255 ∷ 255 ∷ 255 ∷ 255 ∷ 255 ∷ 255 ∷ 255 ∷ 255 ∷ 255 ∷ 255 ∷ 255 ∷ 255 ∷ 255 ∷ 255 ∷ 255 ∷
          255 ∷ 255 ∷ 255 ∷ 255 ∷ 255 ∷ 255 ∷ 255 ∷ 255 ∷ 255 ∷ 255 ∷ 255 ∷
          127 ∷ 133 ∷ 138 ∷ 135 ∷ 136 ∷ 138 ∷ 143 ∷ 148 ∷ 148 ∷ 152 ∷ 154 ∷ 156 ∷ 159 ∷ 165 ∷ 171 ∷ 168 ∷ 179 ∷ 181 ∷ 187 ∷ 190 ∷ 189 ∷ 188 ∷ 199 ∷ 201 ∷ 195 ∷
          203 ∷ 201 ∷ 204 ∷ 214 ∷ 211 ∷ 222 ∷ 221 ∷ 219 ∷ 224 ∷ 233 ∷ 236 ∷ 234 ∷ 236 ∷ 237 ∷ 243 ∷ 248 ∷ 249 ∷ 250 ∷ 255 ∷ 255 ∷ 255 ∷ 255 ∷ 255 ∷ 255 ∷ 255 ∷
          255 ∷ 255 ∷ 255 ∷ 255 ∷ 255 ∷ 255 ∷ 255 ∷ 255 ∷ 255 ∷ 255 ∷ 255 ∷ 255 ∷ 255 ∷ 255 ∷ 255 ∷ 255 ∷ 255 ∷ 255 ∷ 255 ∷ 255 ∷ 255 ∷ 255 ∷ 255 ∷ 255 ∷ 255 ∷
          255 ∷ 255 ∷ 255 ∷ 255 ∷ 255 ∷ 255 ∷ 255 ∷ 255 ∷ 255 ∷ 255 ∷ 255 ∷ 255 ∷ 255 ∷ 255 ∷ 255 ∷ 255 ∷ 255 ∷ 255 ∷ 255 ∷ 255 ∷ 255 ∷ 255 ∷ 255 ∷ 255 ∷ 255 ∷
          255 ∷ 255 ∷ 255 ∷ 255 ∷ 255 ∷ 255 ∷ 255 ∷ 255 ∷ 255 ∷ 255 ∷ 255 ∷
          127 ∷ 127 ∷ 127 ∷ 140 ∷ 138 ∷ 136 ∷ 142 ∷ 144 ∷ 151 ∷ 148 ∷ 158 ∷ 163 ∷ 157 ∷ 169 ∷ 167 ∷ 171 ∷ 169 ∷ 177 ∷ 179 ∷ 179 ∷ 183 ∷ 185 ∷ 188 ∷ 200 ∷ 197 ∷
          199 ∷ 206 ∷ 204 ∷ 210 ∷ 209 ∷ 217 ∷ 223 ∷ 221 ∷ 224 ∷ 232 ∷ 227 ∷ 231 ∷ 239 ∷ 244 ∷ 243 ∷ 251 ∷ 247 ∷ 250 ∷ 251 ∷ 255 ∷ 255 ∷ 255 ∷ 255 ∷ 255 ∷ 255 ∷
          255 ∷ 255 ∷ 255 ∷ 255 ∷ 255 ∷ 255 ∷ 255 ∷ 255 ∷ 255 ∷ 255 ∷ 255 ∷ 255 ∷ 255 ∷ 255 ∷ 255 ∷ 255 ∷ 255 ∷ 255 ∷ 255 ∷ 255 ∷ 255 ∷ 255 ∷ 255 ∷ 255 ∷ 255 ∷
          255 ∷ 255 ∷ 255 ∷ 255 ∷ 255 ∷ 255 ∷ 255 ∷ 255 ∷ 255 ∷ 255 ∷ 255 ∷ 255 ∷ 255 ∷ 255 ∷ 255 ∷ 255 ∷ 255 ∷ 255 ∷ 255 ∷ 255 ∷ 255 ∷ 255 ∷ 255 ∷ 255 ∷ 255 ∷
          255 ∷ 255 ∷ 255 ∷ 255 ∷ 255 ∷ 255 ∷ 255 ∷ 255 ∷ 255 ∷ 255 ∷ 255 ∷
          209 ∷ 208 ∷ 38 ∷ 57 ∷ 245 ∷ 26 ∷ 34 ∷ 45 ∷ 5 ∷ 238 ∷ 83 ∷ 174 ∷ 16 ∷ 85 ∷ 147 ∷ 25 ∷ 92 ∷ 75 ∷ 101 ∷ 44 ∷ 46 ∷ 142 ∷ 2 ∷ 199 ∷ 50 ∷ 21 ∷ 159 ∷ 186 ∷
          92 ∷ 111 ∷ 249 ∷ 194 ∷ 174 ∷ 255 ∷ 32 ∷ 138 ∷ 33 ∷ 126 ∷ 50 ∷ 180 ∷ 239 ∷ 190 ∷ 94 ∷ 246 ∷ 52 ∷ 120 ∷ 140 ∷ 161 ∷ 193 ∷ 161 ∷ 93 ∷ 208 ∷ 253 ∷ 93 ∷
          65 ∷ 47 ∷
          185 ∷ 96 ∷ 168 ∷ 39 ∷ 168 ∷ 252 ∷ 107 ∷ 118 ∷ 217 ∷ 94 ∷ 3 ∷ 185 ∷ 234 ∷ 186 ∷ 41 ∷ 175 ∷ 58 ∷ 241 ∷ 50 ∷ 252 ∷ 38 ∷ 19 ∷ 244 ∷ 37 ∷ 107 ∷ 27 ∷ 226 ∷
          96 ∷ 149 ∷ 99 ∷ 132 ∷ 72 ∷ 1 ∷ 103 ∷ 209 ∷ 25 ∷ 169 ∷ 208 ∷ 223 ∷ 206 ∷ 33 ∷ 145 ∷ 71 ∷ 202 ∷ 252 ∷ 159 ∷ 30 ∷ 86 ∷ 144 ∷ 159 ∷ 228 ∷ 186 ∷ 131 ∷
          13 ∷ 104 ∷ 15 ∷
          146 ∷ 135 ∷ 144 ∷ 150 ∷ 144 ∷ 143 ∷ 159 ∷ 166 ∷ 153 ∷ 165 ∷ 168 ∷ 162 ∷ 173 ∷ 177 ∷ 172 ∷ 185 ∷ 181 ∷ 196 ∷ 200 ∷ 200 ∷ 207 ∷ 210 ∷ 206 ∷ 196 ∷ 201 ∷
          223 ∷ 225 ∷ 215 ∷ 219 ∷ 219 ∷ 221 ∷ 225 ∷ 231 ∷ 246 ∷ 234 ∷ 251 ∷ 253 ∷ 254 ∷ 248 ∷ 255 ∷ 255 ∷ 255 ∷ 255 ∷ 255 ∷ 255 ∷ 255 ∷ 255 ∷ 255 ∷ 255 ∷ 255 ∷
          255 ∷ 255 ∷ 255 ∷ 255 ∷ 255 ∷ 255 ∷
          143 ∷ 141 ∷ 132 ∷ 146 ∷ 153 ∷ 150 ∷ 159 ∷ 158 ∷ 155 ∷ 165 ∷ 161 ∷ 165 ∷ 182 ∷ 176 ∷ 173 ∷ 180 ∷ 192 ∷ 182 ∷ 182 ∷ 188 ∷ 206 ∷ 199 ∷ 206 ∷ 197 ∷ 207 ∷
          210 ∷ 210 ∷ 221 ∷ 227 ∷ 224 ∷ 230 ∷ 227 ∷ 226 ∷ 235 ∷ 236 ∷ 230 ∷ 253 ∷ 248 ∷ 242 ∷ 249 ∷ 253 ∷ 255 ∷ 255 ∷ 255 ∷ 255 ∷ 255 ∷ 255 ∷ 255 ∷ 255 ∷ 255 ∷
          255 ∷ 255 ∷ 255 ∷ 255 ∷ 255 ∷ 255 ∷
          [];
    }

abbrev pub width_five_read : Reading
width_five_read =
    record {
      page =
          record {
            answer = 0;
            place = 210;
            components = 3;
            caption = true;
            width = 5 ∷ 3 ∷ 3 ∷ 0 ∷ [];
            height = 3 ∷ 2 ∷ 2 ∷ 0 ∷ [];
            precision = 9 ∷ 9 ∷ 9 ∷ 0 ∷ [];
            distance = 0 ∷ 0 ∷ 0 ∷ 0 ∷ [];
            bytes = record { markers = 96; precincts = 10; packets = 40; significance = 4; counts = 13; «data» = 44; signs = 0; filler = 3; spoilt = 0 };
          };
      samples =
          266 ∷ 261 ∷ 274 ∷ 266 ∷ 287 ∷
          262 ∷ 267 ∷ 285 ∷ 286 ∷ 274 ∷
          264 ∷ 277 ∷ 279 ∷ 283 ∷ 283 ∷
          258 ∷ 262 ∷ 267 ∷
          254 ∷ 256 ∷ 263 ∷
          262 ∷ 279 ∷ 281 ∷
          259 ∷ 261 ∷ 283 ∷
          [];
    }

abbrev pub predicted_read : Reading
predicted_read =
    record {
      page =
          record {
            answer = 0;
            place = 197;
            components = 1;
            caption = false;
            width = 4 ∷ 0 ∷ 0 ∷ 0 ∷ [];
            height = 5 ∷ 0 ∷ 0 ∷ 0 ∷ [];
            precision = 13 ∷ 0 ∷ 0 ∷ 0 ∷ [];
            distance = 0 ∷ 0 ∷ 0 ∷ 0 ∷ [];
            bytes = record { markers = 66; precincts = 14; packets = 65; significance = 0; counts = 13; «data» = 29; signs = 0; filler = 10; spoilt = 0 };
          };
      samples =
          4072 ∷ 4080 ∷ 4090 ∷ 4090 ∷
          4101 ∷ 4105 ∷ 4095 ∷ 4095 ∷
          4076 ∷ 4092 ∷ 4104 ∷ 4104 ∷
          4123 ∷ 4119 ∷ 4092 ∷ 4095 ∷
          4061 ∷ 4067 ∷ 4088 ∷ 4095 ∷
          [];
    }

abbrev pub uniform_read : Reading
uniform_read =
    record {
      page =
          record {
            answer = 0;
            place = 348;
            components = 1;
            caption = false;
            width = 12 ∷ 0 ∷ 0 ∷ 0 ∷ [];
            height = 4 ∷ 0 ∷ 0 ∷ 0 ∷ [];
            precision = 12 ∷ 0 ∷ 0 ∷ 0 ∷ [];
            distance = 24 ∷ 0 ∷ 0 ∷ 0 ∷ [];
            bytes = record { markers = 170; precincts = 14; packets = 56; significance = 4; counts = 12; «data» = 82; signs = 10; filler = 0; spoilt = 0 };
          };
      samples =
          3360 ∷ 3282 ∷ 3223 ∷ 3043 ∷ 2859 ∷ 2642 ∷ 2542 ∷ 3004 ∷ 2947 ∷ 3089 ∷ 3129 ∷ 3246 ∷
          2873 ∷ 2807 ∷ 2758 ∷ 2531 ∷ 2469 ∷ 2331 ∷ 2076 ∷ 3151 ∷ 3157 ∷ 3364 ∷ 3423 ∷ 3533 ∷
          2455 ∷ 2421 ∷ 2266 ∷ 2185 ∷ 1998 ∷ 1817 ∷ 1629 ∷ 3346 ∷ 3480 ∷ 3534 ∷ 3593 ∷ 3698 ∷
          2110 ∷ 2152 ∷ 1994 ∷ 1832 ∷ 1672 ∷ 1451 ∷ 1364 ∷ 3528 ∷ 3660 ∷ 3692 ∷ 3773 ∷ 3839 ∷
          [];
    }

-- ---- the distance of each sample, in the order of the samples. 8191 is where rule 5 caps

abbrev pub coarse_slices_distances : List ℕ
coarse_slices_distances =
    1 ∷ 2 ∷ 1 ∷ 2 ∷ 1 ∷
    8191 ∷ 8191 ∷ 8191 ∷ 8191 ∷ 8191 ∷
    8191 ∷ 8191 ∷ 8191 ∷ 8191 ∷ 8191 ∷
    8191 ∷ 8191 ∷ 8191 ∷ 8191 ∷ 8191 ∷
    8191 ∷ 8191 ∷ 8191 ∷ 8191 ∷ 8191 ∷
    4327 ∷ 8191 ∷ 4583 ∷ 8191 ∷ 4327 ∷
    327 ∷ 725 ∷ 837 ∷ 725 ∷ 327 ∷
    582 ∷ 1490 ∷ 1092 ∷ 1490 ∷ 582 ∷
    []

abbrev pub coarse_columns_distances : List ℕ
coarse_columns_distances =
    0 ∷ 0 ∷ 0 ∷ 0 ∷ 0 ∷ 0 ∷ 0 ∷ 0 ∷ 0 ∷ 0 ∷ 0 ∷ 0 ∷ 0 ∷ 0 ∷ 0 ∷ 513 ∷ 1025 ∷ 1033 ∷ 1027 ∷ 1034 ∷ 1027 ∷ 1034 ∷ 1027 ∷ 1034 ∷ 1027 ∷ 1034 ∷ 1027 ∷ 1034 ∷ 1027 ∷ 1034 ∷ 1027 ∷ 1034 ∷ 1027 ∷ 1034 ∷ 1027 ∷
    4111 ∷ 4142 ∷ 4111 ∷ 4142 ∷ 4111 ∷ 4142 ∷ 4111 ∷ 4142 ∷ 4111 ∷ 4142 ∷ 4111 ∷ 4142 ∷ 4111 ∷ 4142 ∷ 4111 ∷ 2091 ∷ 9 ∷ 5 ∷ 1 ∷ 1 ∷ 1 ∷ 1 ∷ 1 ∷ 1 ∷ 1 ∷ 1 ∷ 1 ∷ 1 ∷ 1 ∷ 1 ∷ 1 ∷ 32 ∷ 63 ∷ 63 ∷ 63 ∷
    []

abbrev pub coarse_colours_distances : List ℕ
coarse_colours_distances =
    0 ∷ 0 ∷ 0 ∷ 0 ∷ 0 ∷ 0 ∷
    12 ∷ 12 ∷ 12 ∷ 12 ∷ 12 ∷ 12 ∷
    2 ∷ 2 ∷ 2 ∷ 2 ∷ 2 ∷ 2 ∷
    5 ∷ 5 ∷ 5 ∷ 5 ∷ 5 ∷ 5 ∷
    0 ∷ 0 ∷ 0 ∷ 0 ∷ 0 ∷ 0 ∷
    5 ∷ 5 ∷ 5 ∷ 5 ∷ 5 ∷ 5 ∷
    1 ∷ 1 ∷ 1 ∷ 1 ∷ 1 ∷ 1 ∷
    2 ∷ 2 ∷ 2 ∷ 2 ∷ 2 ∷ 2 ∷
    0 ∷ 0 ∷ 0 ∷ 0 ∷ 0 ∷ 0 ∷
    5 ∷ 5 ∷ 5 ∷ 5 ∷ 5 ∷ 5 ∷
    1 ∷ 1 ∷ 1 ∷ 1 ∷ 1 ∷ 1 ∷
    2 ∷ 2 ∷ 2 ∷ 2 ∷ 2 ∷ 2 ∷
    []

-- ---- where the bytes went of a damaged page, whose second slice is spoilt

abbrev pub predicted_at_top_bytes : Bytes
predicted_at_top_bytes = record { markers = 62; precincts = 6; packets = 5; significance = 0; counts = 1; «data» = 0; signs = 0; filler = 0; spoilt = 13 }
